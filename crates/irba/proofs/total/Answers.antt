-- `total`: each partial sum fits, since its terms are small. No axioms.
use lib.Dec.{lit≤}
use lib.IntN.{◌+ℤ◌}
use Rattle.irba.proofs.SignedLaws.{machine_sum, SumOf, one_term, one_more, sum_read}
use Rattle.irba.proofs.total.Goals.{Start}
use Rattle.irba.proofs.total.Goals as goal

module _ (c : Start) where
  two : SumOf 2 (machine_sum c.args.v c.args.w) (c.args.v +ℤ c.args.w)
  two = one_more c.args.w (one_term c.args.v c.requires.0) (lit≤ tt) c.requires.1

  three : SumOf 3 (machine_sum (machine_sum c.args.v c.args.w) c.args.x) (c.args.v +ℤ c.args.w +ℤ c.args.x)
  three = one_more c.args.x two (lit≤ tt) c.requires.2

  four :
      SumOf 4 (machine_sum (machine_sum (machine_sum c.args.v c.args.w) c.args.x) c.args.y)
      (c.args.v +ℤ c.args.w +ℤ c.args.x +ℤ c.args.y)
  four = one_more c.args.y three (lit≤ tt) c.requires.3

  five :
      SumOf 5 (machine_sum (machine_sum (machine_sum (machine_sum c.args.v c.args.w) c.args.x) c.args.y) c.args.z)
      (c.args.v +ℤ c.args.w +ℤ c.args.x +ℤ c.args.y +ℤ c.args.z)
  five = one_more c.args.z four (lit≤ tt) c.requires.4

pub returns : goal.returns
returns c = sum_read (five (goal.at.returns c).Start) (lit≤ tt)
