-- `nucleotides::table::put_word`: by the count. Assumes nothing.
use mathlib.Core.Path.{sym, ap, ◌∙◌}
use mathlib.Core.List.{List}
use Prim.Native.Nat.{ℕ, ◌+◌, ◌≤◌}
use native.Mathlib.Omega.{arith}
use lib.ListN.{length}
use Rattle.fields.specs.Number.{big}
use Rattle.fields.specs.Written.{number_put}
use Rattle.fields.proofs.Laws.{put_fits, length-number}
use Rattle.laws.specs.Writing.{written_at}
use Rattle.nucleotides.specs.Pieces.{bytes_of}
use Rattle.nucleotides.specs.Table.{table_word}
use Rattle.nucleotides.proofs.Entries.{word_some}
use Rattle.nucleotides.proofs.table.put_word.Goals as goal

pub returns : goal.returns
returns c =
    let a = c.args in
    let e = word_some (bytes_of a.width) a.n c.if-n-eq0.false in
    let h = c.requires.1 in
    let l : a.at + 4 ≤ length a.out.now = omega (arith, ap length e, length-number big 4 (table_word (bytes_of a.width) a.n)) in
    c.put.ensures
    ∙ ap (λ (x : ℕ). number_put big 4 a.at x a.out.now) c.table_word.ensures
    ∙ put_fits big 4 a.at (table_word (bytes_of a.width) a.n) a.out.now l
    ∙ ap (λ (xs : List ℕ). written_at a.at xs a.out.now) (sym e)
