-- What a sheet is opened to is an opened pool.
use Rattle.pool.proofs.SummedPoolLaw.{opened_means}
use Rattle.checked_examples.proofs.amendments.print_opening.Goals as goal

pub print_pool-requires : goal.print_pool-requires
print_pool-requires g c = opened_means _ _ c.in-Ok.ensures

pub print_run-requires : goal.print_run-requires
print_run-requires g c = opened_means _ _ c.in-Ok.ensures
