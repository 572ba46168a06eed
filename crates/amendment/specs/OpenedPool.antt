-- 02, S-10: "a call may require a pool whose sheet would open and whose sums are those of its rows" (`OpenedPool`, SummedPool.antt of `pool`). What `is_opened` promises: its answer is true
-- where that holds, and false where it does not.
use Rattle.std.specs.Prelude.{Bool, true, false, ◌≡◌}

pub record Tells (answer : Bool) (A : Type 0) : Type 0 where
  pub yes : answer ≡ true → A
  pub no : answer ≡ false → A → ⊥
