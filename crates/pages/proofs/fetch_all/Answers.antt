-- `pages::fetch_all`: what is left of the list, from how far the page is, comes to what the whole list comes to. Assumes nothing.
use mathlib.Core.Path.{◌≡◌, refl, sym, ap, subst, ◌∙◌}
use mathlib.Core.List.{List, ◌++◌}
use Prim.Native.Nat.{ℕ, ◌+◌, ◌-◌, ◌≤◌}
use native.Mathlib.Omega.{arith}
use lib.ListN.{length, get_or, set, take, drop, length-set, length-drop}
use Rattle.std.specs.Prelude.{Result, Ok, Err, MatchResult, IsErrAnd}
use Rattle.std.proofs.lemmas.Result.{err_from_is_err_and}
use Rattle.answers.proofs.Checks.{err-not_ok, err_cause}
use Rattle.answers.specs.declared.Refusal.{Refusal}
use Rattle.sequence.proofs.Decoded.{decoded_fits}
use borrow.Author.Rules.{rules}
use Rattle.pages.specs.declared.Stop.{Stop}
use Rattle.pages.specs.Page.{Progress, left, item_answer, item_output, fetch_all}
use Rattle.pages.proofs.Steps.{same_parts, output_kept, item-done, output-size, list_goes_on, list_stops, list-ends, lent_answer, lent_output}
use Rattle.pages.proofs.fetch_all.Goals as goal

-- How far the page is.

abbrev at : List ℕ → List ℕ → ℕ → ℕ → Progress
at out ends filled done = record { output = out; ends = ends; filled = filled; done = done }

-- the answer that a call gave before its error was changed
ok-before : {T E D : Type 0} (s : Result T E) (m : Result T D) (P : E → D → Type 0) → MatchResult s (λ x. m ≡ Ok x) (λ e. IsErrAnd m (P e)) → (x : T)
    → m ≡ Ok x → s ≡ Ok x
ok-before (Ok y) m P h x g = ap Ok (let same : ◌≡◌ {A = Result _ _} (Ok y) (Ok x) = sym h ∙ g in cc)
ok-before (Err e) m P h x g = let p = err_from_is_err_and m h in absurd (err-not_ok p.0 x (sym p.1 ∙ g))

err-before : {T E D : Type 0} (s : Result T E) (m : Result T D) (P : E → D → Type 0) → MatchResult s (λ x. m ≡ Ok x) (λ e. IsErrAnd m (P e)) → (d : D)
    → m ≡ Err d → (e : E) × (s ≡ Err e) × P e d
err-before (Ok y) m P h d g = absurd (err-not_ok d y (sym g ∙ h))
err-before (Err e) m P h d g = let p = err_from_is_err_and m h in (e, refl, subst (P e) (sym (err_cause p.0 d (sym g ∙ p.1))) p.2)

-- what a fetch that was good takes still lies in the output
item_fits : (index sequence : List ℕ) (number l : ℕ) (p : Progress) → p.filled ≤ length p.output → item_answer index sequence number p ≡ Ok l
    → p.filled + l ≤ length p.output
item_fits index sequence number l p h e =
    let f = decoded_fits index sequence number (length (left p)) l e in
    omega (arith, length-drop p.filled p.output)

pub returns-in_err-l : goal.returns-in_err-l
returns-in_err-l c =
    let index = c.args.index.now in
    let sequence = c.args.sequence.now in
    let numbers = c.args.numbers.now in
    let q : Progress = at c.loop-done.out c.loop-done.ends c.loop-done.filled c.loop-done.done-counter in
    let number : ℕ = get_or numbers q.done 0 in
    let p = err_from_is_err_and c.from_residual.result c.from_residual.ensures.1 in
    let told = err-before c.decode.result c.map_err.result _ c.map_err.ensures.cases _ c.in_err-l.was in
    let changed = told.2 in
    let r : Refusal = told.0 in
    let stop : Stop = record { refusal = r; done = q.done } in
    let same : c.in_err-l.field-0.0 ≡ stop = search rules in
    let refused : item_answer index sequence number q ≡ Err r = lent_answer index sequence number q c.loop-done.invariant.0 _ c.decode.ensures.value ∙ told.1 in
    let kept = lent_output index sequence number q c.loop-done.invariant.0 c.decode.new.out c.decode.ensures.out_after ∙ output_kept index sequence number q r refused in
    let x = same_parts _ _ (sym (c.loop-done.invariant.3 ∙ list_stops index sequence numbers q.done c.loop-done-test.true q r refused)) in
    record { value = rw (p.1, p.2, same) x.0; out_after = kept ∙ x.1.0; ends_after = x.1.1 }

pub overflow_add-filled : goal.overflow_add-filled
overflow_add-filled c =
    let p : Progress = at c.loop-done.out c.loop-done.ends c.loop-done.filled c.loop-done.done-counter in
    let number : ℕ = get_or c.args.numbers.now p.done 0 in
    let answered = lent_answer c.args.index.now c.args.sequence.now number p c.loop-done.invariant.0 _ c.decode.ensures.value in
    let f = item_fits c.args.index.now c.args.sequence.now number _ p c.loop-done.invariant.0 (answered ∙ ok-before c.decode.result c.map_err.result _ c.map_err.ensures.cases _ c.in_ok-l.was) in
    let same = c.loop-done.invariant.1 in
    omega arith

pub loop-done-preserved : goal.loop-done-preserved
loop-done-preserved c =
    let index : List ℕ = c.args.index.now in
    let sequence : List ℕ = c.args.sequence.now in
    let numbers : List ℕ = c.args.numbers.now in
    let p : Progress = at c.loop-done.out c.loop-done.ends c.loop-done.filled c.loop-done.done-counter in
    let number : ℕ = get_or numbers p.done 0 in
    let answered : item_answer index sequence number p ≡ c.decode.result = lent_answer index sequence number p c.loop-done.invariant.0 _ c.decode.ensures.value in
    let after-fetch : take p.filled p.output ++ (c.decode.new.out ++ drop (length p.output - p.filled) (left p))
    ≡ item_output index sequence number p = lent_output index sequence number p c.loop-done.invariant.0 c.decode.new.out c.decode.ensures.out_after in
    let l = c.in_ok-l.l in
    let e = ok-before c.decode.result c.map_err.result _ c.map_err.ensures.cases l c.in_ok-l.was in
    let q = p in
    let fits = item_fits index sequence number l p c.loop-done.invariant.0 (answered ∙ e) in
    let size = ap length after-fetch ∙ output-size index sequence number q in
    let ends = set q.ends q.done (q.filled + l) in (
      omega arith,
      size ∙ c.loop-done.invariant.1,
      length-set q.ends q.done (q.filled + l) ∙ c.loop-done.invariant.2,
      c.loop-done.invariant.3
          ∙ list_goes_on index sequence numbers p.done c.loop-done-test.true p l (answered ∙ e)
          ∙ ap (fetch_all index sequence (drop (p.done + 1) numbers)) (item-done index sequence number p l (answered ∙ e))
          ∙ ap (λ (o : List ℕ). fetch_all index sequence (drop (q.done + 1) numbers) (at o ends (q.filled + l) (q.done + 1)))
          (sym after-fetch),
    )

pub returns : goal.returns
returns c = let l = c.loop-done in
    let a = c.args in
    let q = at l.out l.ends l.filled l.done-counter in
    let parts = same_parts _ _ (sym (l.invariant.3 ∙ list-ends a.index.now a.sequence.now a.numbers.now l.done-counter q c.loop-done-test.false)) in
    let all : length a.numbers.now ≡ l.done-counter = omega arith in
    record { value = rw all parts.0; out_after = parts.1.0; ends_after = parts.1.1 }
