-- What is read of a sheet whose words are not judged: its layout where no count is above its limit, and otherwise nothing; `read_layout` promises it of all words. No reader of an answer
-- has to trust this file: of a sheet whose words are good it is the layout (`layout_read_lem`, proofs/ReadLayout.antt), and no other open contract goes by it.
use Rattle.std.specs.Prelude.{Bool, false, cond, ◌&&◌, List, ℕ, leb}
use Rattle.limits.specs.SheetSize.{facts_most, rows_most, tranches_most}
use Rattle.judgement.specs.DealSheet.{word, rows, tranche_count, layout}
use Rattle.judgement.specs.declared.Layout.{Layout}

abbrev pub counts_within : List ℕ → Bool
counts_within s = leb (word s 0) facts_most && (leb (rows s) rows_most && leb (tranche_count s) tranches_most)

abbrev pub no_layout : Layout
no_layout = record {
  kind = 0;
  resecuritisation = false;
  stc = false;
  diligence = false;
  composition = false;
  reporting_date = 0;
  hundredths = false;
  first_row = 0;
  rows = 0;
  first_tranche = 0;
  tranches = 0;
  irb = record { charge = 0; loss = 0; loans = 0; retail = false; share = 0; average = 0 };
}

unfoldable pub layout_read : List ℕ → Layout
layout_read s = cond (counts_within s) (layout s) no_layout
