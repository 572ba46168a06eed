-- `replace_row`: both rows are there and within the limits, and the sums with one exchanged for the other are those of the amended sheet. No axioms.
use Rattle.amendment.proofs.AmendedSums.{old_row_there, row_words, is_amended, new_row_there, exchangeable, open_again}
use Rattle.amendment.proofs.replace_row.Goals as goal

pub part_at-old-requires : goal.part_at-old-requires
part_at-old-requires c = old_row_there c.requires

pub put_row-requires : goal.put_row-requires
put_row-requires c = ((old_row_there c.requires).0, row_words c.requires)

pub part_at-new-requires : goal.part_at-new-requires
part_at-new-requires c =
    new_row_there c.requires c.put_row.ensures

pub sums_exchanged-requires : goal.sums_exchanged-requires
sums_exchanged-requires c =
    exchangeable c.requires c.put_row.ensures c.part_at-old.ensures c.part_at-new.ensures

pub returns : goal.returns
returns c = (
  is_amended c.requires c.put_row.ensures,
  open_again c.requires c.put_row.ensures c.part_at-old.ensures c.part_at-new.ensures c.sums_exchanged.ensures,
)
