-- 01, "The deal sheet": "approach (0 fallback, 1 SEC-ERBA, 2 SEC-SA)"; 02, S-5: 3 SEC-IRBA. The number of each approach.
use Rattle.std.specs.Prelude.{ℕ}
use Rattle.weights.specs.declared.approaches.Approach.{Approach}
use Rattle.weights.specs.declared.approaches.Approach.TheVariants.{Fallback, Erba, Sa, Irba}

abbrev pub number_of : Approach → ℕ
number_of Fallback = 0
number_of Erba = 1
number_of Sa = 2
number_of Irba = 3
