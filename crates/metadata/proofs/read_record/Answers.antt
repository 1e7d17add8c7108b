-- `metadata::read_record`: name and accession are closed where the definition says, and the description at the one place where it can be. Assumes nothing.
use Rattle.std.proofs.Common.{◌≡◌, sym, ap, ◌∙◌, arith, ◌-◌, ◌+◌, true}
use borrow.Author.Tests.{eq-eqb, ne_eqb}
use mir.Syntax.{w32}
use Rattle.laws.proofs.Signed.{again}
use Rattle.fields.specs.Number.{signed_at}
use Rattle.metadata.specs.Record.{is_taxonomy, texts_in}
use Rattle.metadata.proofs.Descriptions.{short-record, no_description, description-closed}
use Rattle.metadata.proofs.read_record.Goals as goal

pub returns-then-to-accession_end-lt6 : goal.returns-then-to-accession_end-lt6
unfolding texts_in
returns-then-to-accession_end-lt6 c =
    let a = c.args in
    let n = c.in_ok-name_end in
    let y = c.in_ok-accession_end in
    rw (sym n.ensures.value, ne_eqb _ _ c.if-name_end-from.false, sym y.ensures.value)
    (short-record a.order a.file.now a.start.0 a.end.0 n.name_end y.accession_end (omega arith))

pub returns-then-not-is_description : goal.returns-then-not-is_description
unfolding texts_in
returns-then-not-is_description c =
    let a = c.args in
    let n = c.in_ok-name_end in
    let y = c.in_ok-accession_end in
    rw (sym n.ensures.value, ne_eqb _ _ c.if-name_end-from.false, sym y.ensures.value)
    (no_description a.order a.file.now a.start.0 a.end.0 n.name_end y.accession_end (a.end.0 - 5) (omega (arith, c.if-to-accession_end-lt6.false)) (sym c.is_description.ensures ∙ c.if-not-is_description.true))

pub returns : goal.returns
unfolding texts_in
returns c =
    let a = c.args in
    let n = c.in_ok-name_end in
    let y = c.in_ok-accession_end in
    let e = description-closed a.order a.file.now a.start.0 a.end.0 n.name_end y.accession_end (a.end.0 - 5) (omega (arith, c.if-to-accession_end-lt6.false)) (omega (arith, c.if-to-accession_end-lt6.false)) (sym c.is_description.ensures ∙ c.if-not-is_description.false) in
    let whole = eq-eqb (a.end.0 - 5 + 5) a.end.0 (omega (arith, c.if-to-accession_end-lt6.false)) in
    let t : is_taxonomy (signed_at a.order 4 a.file.now (a.end.0 - 5 + 1)) ≡ true =
    ap is_taxonomy (sym (again w32 _ _ c.read.type_inv c.read.ensures)) ∙ (sym c.is_taxonomy.ensures ∙ c.if-not-is_taxonomy.false) in
    rw (sym n.ensures.value, ne_eqb _ _ c.if-name_end-from.false, sym y.ensures.value, e, whole, t)
