-- The sum stays below the number that it is a remainder by.
use Rattle.std.proofs.Common.{rules, ◌<◌}
use Rattle.std.proofs.lemmas.Fn.{serves_by}
use Rattle.checked_examples.proofs.conversions.checksum.Goals as goal

pub fold-requires-clause-callable : goal.fold-requires-clause-callable
fold-requires-clause-callable c =
    serves_by _ (λ _ q. q.1 < 1000003) (λ xs q x v j r. search rules) _ _ _ _ (search rules)
    (λ xs t q x u y e j. search rules)
