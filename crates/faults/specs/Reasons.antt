-- 01, "Refusals, by who can cause them", and 02: the number of each reason for a refusal.
use Rattle.std.specs.Prelude.{ℕ, Result, Ok, Err}
use Rattle.faults.specs.declared.Reason.{Reason}
use Rattle.faults.specs.declared.Reason.TheVariants.{MissingWord, Count, WordsFollow, Fact, PoolAmount, RiskWeight, Status, TrancheAmount, Class, Maturity, Rating, NoThickness, NoRoom, FileLength, StcMark, Date, IrbFigure, PartPercent}

-- the numbers of 01 and, from 16 on, of 02; 12 "no longer occurs" (02, S-5)
abbrev pub number_of : Reason → ℕ
number_of MissingWord = 1
number_of Count = 2
number_of WordsFollow = 3
number_of Fact = 4
number_of PoolAmount = 5
number_of RiskWeight = 6
number_of Status = 7
number_of TrancheAmount = 8
number_of Class = 9
number_of Maturity = 10
number_of Rating = 11
number_of NoThickness = 13
number_of NoRoom = 14
number_of FileLength = 15
number_of StcMark = 16
number_of Date = 17
number_of IrbFigure = 18
number_of PartPercent = 19

-- the number of a word's fault, and 0 where it has none
abbrev pub fault_number : Result (Unit {0}) Reason → ℕ
fault_number (Ok _) = 0
fault_number (Err reason) = number_of reason
