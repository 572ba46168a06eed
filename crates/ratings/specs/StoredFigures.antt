-- 02, S-4, "A leaner rating table": how the code keeps the figures of RatingTable.antt, which stay in percent. No reader
-- has to trust this file: only private contracts cite it, and `kept_tables` shows it of the constants.
use Rattle.std.specs.Prelude.{List, map, ◌≡◌, ℕ, ◌*◌}
use Rattle.ratings.specs.RatingTable.{rating_table, stc_rating_table}

-- "Every figure in both rating tables is a multiple of 5%, and 1250 / 5 is 250, so each fits a byte. Keep the figures that way.": a figure in percent, from the figure as it
-- is kept, in fives of a percent
abbrev pub in_percent : ℕ → ℕ
in_percent fives = 5 * fives

-- the figures of a row, or of all short-term grades, in percent, from the figures as they are kept
abbrev pub row_in_percent : List ℕ → List ℕ
row_in_percent row = map in_percent row

-- a table in percent, from the table as it is kept
abbrev pub table_in_percent : List (List ℕ) → List (List ℕ)
table_in_percent table = map row_in_percent table

-- "What a lookup returns does not change.": the tables of ordinary and of STC deals as they are kept, from which a lookup reads, are in percent those of RatingTable.antt
pub record KeptTables (ordinary marked : List (List ℕ)) : Type 0 where
  pub ordinary_kept : table_in_percent ordinary ≡ rating_table
  pub marked_kept : table_in_percent marked ≡ stc_rating_table
