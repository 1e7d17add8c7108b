-- `dsqdata::header::check_layout`: each test and each part answers for its rules, and the first that refuses decides. Assumes nothing.
use Rattle.std.proofs.Common.{◌≡◌, sym, ap, ◌∙◌, ℕ, ◌%◌, true}
use borrow.Author.Tests.{eq-eqb, ne_eqb}
use Rattle.std.specs.Prelude.{Err}
use Rattle.answers.specs.Limits.{checked_by}
use Rattle.residues.specs.Alphabets.{is_alphabet}
use Rattle.dsqdata.specs.declared.SetRecord.{SetRecord}
use Rattle.dsqdata.specs.Header.{alphabet_of}
use Rattle.dsqdata.specs.Check.{layout_rules, header_rules, count_rules, body_rules}
use Rattle.dsqdata.proofs.Chain.{handed_on, err_then, ok_then}
use Rattle.dsqdata.proofs.header.check_layout.Goals as goal

pub returns-in_err-check_count : goal.returns-in_err-check_count
unfolding layout_rules header_rules
returns-in_err-check_count c =
    let q = c.requires in
    let a : is_alphabet (alphabet_of c.args.set.order c.args.files.now.index.now) ≡ true = sym (ap (λ (x : SetRecord). is_alphabet x.alphabet) q) ∙ (sym c.is_alphabet.ensures ∙ c.if-not-is_alphabet.false) in
    let e = c.in_err-check_count.ensures.value ∙ ap (λ (x : SetRecord). checked_by (count_rules x.count c.args.files.now.index.now)) q in
    rw (
      handed_on _ c.from_residual.ensures.1,
      a,
      eq-eqb _ _ (sym (ap (λ (x : SetRecord). x.flags) q) ∙ c.if-set-ne0.false),
      err_then Err _ _ _ _ _ e,
    )

pub returns-then-bytes_after_header-ne0 : goal.returns-then-bytes_after_header-ne0
unfolding layout_rules header_rules body_rules
returns-then-bytes_after_header-ne0 c =
    let q = c.requires in
    let a : is_alphabet (alphabet_of c.args.set.order c.args.files.now.index.now) ≡ true = sym (ap (λ (x : SetRecord). is_alphabet x.alphabet) q) ∙ (sym c.is_alphabet.ensures ∙ c.if-not-is_alphabet.false) in
    let e = c.in_ok-check_count.ensures.value ∙ ap (λ (x : SetRecord). checked_by (count_rules x.count c.args.files.now.index.now)) q in
    rw (
      a,
      eq-eqb _ _ (sym (ap (λ (x : SetRecord). x.flags) q) ∙ c.if-set-ne0.false),
      ok_then Err _ _ _ _ _ e,
      ne_eqb _ _ (λ z. c.if-bytes_after_header-ne0.true (ap (λ (x : ℕ). x % 4) c.bytes_after_header.ensures ∙ z)),
    )
