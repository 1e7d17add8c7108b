-- The plain statement of a good header record.
-- Assumes nothing.
use Rattle.std.specs.Prelude.{List, ℕ, ◌≤◌, length, take}
use Rattle.elements.specs.DefLines.{DefLinesElement}

-- A good record from start up to end of a header file: it fits the file, and is a set of def-lines of source 001 and nothing more.
pub record GoodRecord (header : List ℕ) (start end : ℕ) : Type 0 where
  pub small : length header ≤ 2147483647
  pub ordered : start ≤ end
  pub fits : end ≤ length header
  pub shape : DefLinesElement (take end header) start end
