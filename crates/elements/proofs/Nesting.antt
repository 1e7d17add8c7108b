-- What a form reads, the nesting reads too, also with more depths left. Assumes nothing.
use mathlib.Core.Path.{◌≡◌, refl, sym, subst, ap, ◌∙◌}
use mathlib.Core.List.{List}
use mathlib.Core.Bool.{cond}
use Prim.Native.Nat.{ℕ, zero, suc, ◌+◌, ◌≤◌}
use native.Mathlib.Omega.{arith}
use lib.ListN.{length, get_or}
use Rattle.laws.proofs.Choices.{cond_elim}
use Rattle.std.specs.Prelude.{Result, Ok, Err}
use Rattle.answers.specs.declared.Refusal.{Refusal}
use Rattle.elements.specs.declared.Form.{Form}
use Rattle.elements.specs.declared.Form.TheVariants as F
use Rattle.elements.specs.Grammar.{inside, may_follow, may_close}
use Rattle.elements.specs.Reading.{closes, and_then, closed_at, list_end, read}
use Rattle.elements.proofs.Began.{bad-not_end, Began, read_began, began_read, read_none}
use Rattle.elements.proofs.Began as B
use Rattle.elements.proofs.Exact.{then_end}

module _ (s : List ℕ) where
  list_any : (depth more : ℕ) (i form : Form) → ((q m : ℕ) → read depth i s q ≡ Ok m → read more F.Any s q ≡ Ok m)
      → (turns low other p n : ℕ) → list_end (read depth i s) form turns low s p ≡ Ok n → list_end (read more F.Any s) F.Any turns other s p ≡ Ok n
  unfolding list_end
  list_any depth more i form h zero low other p n e = e
  list_any depth more i form h (suc turns) low other p n e =
      let g : Result ℕ Refusal → Type 0 = λ x. x ≡ Ok n
      → cond (closes s p) (Ok (p + 2)) (and_then (read more F.Any s p) (λ m. list_end (read more F.Any s) F.Any turns (get_or s p 0 + 1) s m)) ≡ Ok n in
      cond_elim g (closes s p) (λ c. cond_elim g (may_close form low) (λ _ e. subst (λ b. cond b (Ok (p + 2)) (and_then (read more F.Any s p) (λ m. list_end (read more F.Any s) F.Any turns (get_or s p 0 + 1) s m)) ≡ Ok n) (sym c) e) (λ _ e. bad-not_end n e))
      (λ c. cond_elim g (may_follow form low (get_or s p 0))
      (λ _ e.
      let t = then_end (read depth i s p) (λ m. list_end (read depth i s) form turns (get_or s p 0 + 1) s m) n e in
      rw (c, h p t.0 t.1) (list_any depth more i form h turns (get_or s p 0 + 1) (get_or s p 0 + 1) t.0 n t.2))
      (λ _ e. bad-not_end n e))
      e

  closed_any : (x y : Result ℕ Refusal) (n : ℕ) → ((m : ℕ) → x ≡ Ok m → y ≡ Ok m) → closed_at s x ≡ Ok n → closed_at s y ≡ Ok n
  closed_any (Ok m) y n h e = ap (closed_at s) (h m refl) ∙ e
  closed_any (Err r) y n h e = absurd (let z : ◌≡◌ {A = ℕ} 0 1 = cc in omega arith)

  pub any_reads : (depth more : ℕ) (form : Form) (at n : ℕ) → depth ≤ more → read depth form s at ≡ Ok n → read more F.Any s at ≡ Ok n
  any_reads zero more form at n l e = read_none form s at n e
  any_reads (suc depth) zero form at n l e = absurd (omega arith)
  any_reads (suc depth) (suc more) form at n l e =
      let h : depth ≤ more = omega arith in
      go (λ i q m t. any_reads depth more i q m h t) (read_began depth form s at n e)
    where
      go : ((i : Form) (q m : ℕ) → read depth i s q ≡ Ok m → read more F.Any s q ≡ Ok m) → Began (λ i p. read depth i s p) form s at n
          → read (suc more) F.Any s at ≡ Ok n
      go h (B.integer m y e) = began_read more F.Any s at n (B.integer refl y e)
      go h (B.text m y e) = began_read more F.Any s at n (B.text refl y e)
      go h (B.list m y o e) =
          began_read more F.Any s at n (B.list refl y o (list_any depth more (inside form 48) form (h (inside form 48)) (length s) 160 160 (at + 2) n e))
      go h (B.choice tag l k m y o e) =
          began_read more F.Any s at n
          (B.choice tag l k refl y o (closed_any (read depth (inside form tag) s (at + 2)) (read more F.Any s (at + 2)) n
          (λ q t. h (inside form tag) (at + 2) q t) e))
