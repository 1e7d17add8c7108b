-- `metadata::is_description`: by the file's end, the NUL and the bytes before it. Assumes nothing.
use Rattle.std.proofs.Common.{sym, ◌∙◌, false}
use borrow.Author.Tests.{eq-eqb}
use Rattle.metadata.proofs.Descriptions.{part_stays}
use Rattle.metadata.proofs.is_description.Goals as goal

pub returns-then-byte-eq0 : goal.returns-then-byte-eq0
returns-then-byte-eq0 c =
    let a = c.args in
    rw (eq-eqb _ _ (sym c.byte.ensures ∙ c.if-byte-eq0.true)) (c.all_described.ensures ∙ part_stays false a.file.now a.from a.nul c.requires c.if-file-nul.false)
