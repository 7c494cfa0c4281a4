-- how large a table is, which is what a contract sees of it
use Rattle.std.specs.Prelude.{ℕ}

pub record Size : Type 0 where
  pub columns : ℕ
  pub rows : ℕ

-- so many columns and rows
abbrev pub of_size : ℕ → ℕ → Size
of_size columns rows = record { columns = columns; rows = rows }
