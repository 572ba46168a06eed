-- Amendments worked out by the definition: the row numbers, the limits, and a bad word that is there before one that is missing and before one too many. No axioms.
use mathlib.Core.Bool.{true, false}
use mathlib.Core.List.{List, [], ◌∷◌}
use mathlib.Core.Path.{◌≡◌, refl}
use Prim.Native.Nat.{ℕ}
use Rattle.judgement.specs.Refusals.{refused, first_of}
use Rattle.judgement.specs.Verdicts.{Verdict, Sound}
use Rattle.amendment.specs.Amendment.{amendment_judged}

-- in an ordinary deal of three rows, its weights in whole percent and in hundredths of a percent, and in a re-securitisation
abbrev in_percent : List ℕ → Verdict
in_percent = amendment_judged false false 3

abbrev in_hundredths : List ℕ → Verdict
in_hundredths = amendment_judged false true 3

abbrev resecuritised : List ℕ → Verdict
resecuritised = amendment_judged true false 3

pub rows_from_1 : (in_percent (0 ∷ 5 ∷ 5 ∷ 5 ∷ 0 ∷ []) ≡ refused 2 0) × (in_percent (3 ∷ 5 ∷ 5 ∷ 5 ∷ 0 ∷ []) ≡ Sound) × (in_percent (4 ∷ 5 ∷ 5 ∷ 5 ∷ 0 ∷ []) ≡ refused 2 0)
unfolding amendment_judged first_of
rows_from_1 = (refl, refl, refl)

pub bad_word_before_a_missing_one : (in_percent (0 ∷ []) ≡ refused 2 0) × (in_percent (1 ∷ 0 ∷ []) ≡ refused 5 1) × (in_percent (1 ∷ 5 ∷ 0 ∷ 5 ∷ []) ≡ refused 5 2)
unfolding amendment_judged first_of
bad_word_before_a_missing_one = (refl, refl, refl)

pub missing_word_at_the_length : (in_percent [] ≡ refused 1 0) × (in_percent (1 ∷ 5 ∷ 5 ∷ 5 ∷ []) ≡ refused 1 4)
unfolding amendment_judged first_of
missing_word_at_the_length = (refl, refl)

pub bad_word_before_a_sixth : (in_percent (1 ∷ 5 ∷ 0 ∷ 5 ∷ 0 ∷ 0 ∷ []) ≡ refused 5 2) × (in_percent (1 ∷ 5 ∷ 5 ∷ 5 ∷ 0 ∷ 0 ∷ []) ≡ refused 3 5)
unfolding amendment_judged first_of
bad_word_before_a_sixth = (refl, refl)

pub weight_in_the_sheet's_unit : (in_percent (1 ∷ 5 ∷ 5 ∷ 1251 ∷ 0 ∷ []) ≡ refused 6 3) × (in_hundredths (1 ∷ 5 ∷ 5 ∷ 1251 ∷ 0 ∷ []) ≡ Sound) × (in_hundredths (1 ∷ 5 ∷ 5 ∷ 125001 ∷ 0 ∷ []) ≡ refused 6 3)
unfolding amendment_judged first_of
weight_in_the_sheet's_unit = (refl, refl, refl)

pub status_of_the_deal : (in_percent (1 ∷ 5 ∷ 5 ∷ 5 ∷ 3 ∷ []) ≡ refused 7 4) × (resecuritised (1 ∷ 5 ∷ 5 ∷ 5 ∷ 3 ∷ []) ≡ Sound) × (resecuritised (1 ∷ 5 ∷ 5 ∷ 5 ∷ 4 ∷ []) ≡ refused 7 4)
unfolding amendment_judged first_of
status_of_the_deal = (refl, refl, refl)
