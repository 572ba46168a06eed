-- The number of a reason tells which reason it is. No axioms.
use Rattle.std.specs.Prelude.{◌≡◌, ℕ, List, [], ◌∷◌, get_or}
use mathlib.Core.Path.{refl, ap, sym, ◌∙◌}
use Rattle.faults.specs.Reasons.{number_of}
use Rattle.faults.specs.declared.Reason.{Reason}
use Rattle.faults.specs.declared.Reason.TheVariants.{MissingWord, Count, WordsFollow, Fact, PoolAmount, RiskWeight, Status, TrancheAmount, Class, Maturity, Rating, NoThickness, NoRoom, FileLength, StcMark, Date, IrbFigure, PartPercent}

-- the reasons in the order of their numbers; at 0 and 12, which are none, whichever
abbrev reasons : List Reason
reasons =
    PartPercent ∷ MissingWord ∷ Count ∷ WordsFollow ∷ Fact ∷ PoolAmount ∷ RiskWeight ∷ Status ∷ TrancheAmount ∷ Class ∷ Maturity ∷ Rating ∷
    PartPercent ∷ NoThickness ∷ NoRoom ∷ FileLength ∷ StcMark ∷ Date ∷ IrbFigure ∷ PartPercent ∷ []

abbrev reason_of : ℕ → Reason
reason_of n = get_or reasons n PartPercent

read_back : (r : Reason) → reason_of (number_of r) ≡ r
read_back MissingWord = refl
read_back Count = refl
read_back WordsFollow = refl
read_back Fact = refl
read_back PoolAmount = refl
read_back RiskWeight = refl
read_back Status = refl
read_back TrancheAmount = refl
read_back Class = refl
read_back Maturity = refl
read_back Rating = refl
read_back NoThickness = refl
read_back NoRoom = refl
read_back FileLength = refl
read_back StcMark = refl
read_back Date = refl
read_back IrbFigure = refl
read_back PartPercent = refl

pub same_reason : (q r : Reason) → number_of q ≡ number_of r → q ≡ r
same_reason q r e = sym (read_back q) ∙ ap reason_of e ∙ read_back r
