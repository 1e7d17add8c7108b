-- Walks by `try_fold`: the closure looks for number k in what an item holds, and hands on how many are left to pass. Assumes nothing.
use mathlib.Core.Path.{◌≡◌, refl, sym, ap, subst, ◌∙◌}
use mathlib.Core.List.{List, [], ◌∷◌, flat_map}
use Prim.Native.Nat.{ℕ, ◌+◌}
use Rattle.std.specs.Prelude.{Some, None}
use Rattle.std.specs.Fn.{Mut, Called, Takes}
use Rattle.std.specs.List.{FoldsTo}
use Rattle.std.specs.Iterator.{YieldsFirst, Yields, TryFoldTurn, CallableInTryFold, TryFoldsItems}
use Rattle.std.specs.ControlFlow.{control_flow_from_branch}
use Rattle.std.specs.declared.ops.ControlFlow.{ControlFlow}
use Rattle.std.specs.declared.ops.ControlFlow.TheVariants.{Break}
use Rattle.deflines.specs.declared.inside.Elements.{Elements}
use Rattle.deflines.specs.Fields.{elements_left, elements_in}
use Rattle.deflines.specs.Numbered.{item_from}
use Rattle.deflines.proofs.Lists.{Each}
use Rattle.deflines.proofs.Walks.{InPlace, elements_each, from_left, from_found}

-- what holds of each item that is left holds of each that is left later
yields_each : {S : Type 0} (rest : S → List ℕ) (P : ℕ → Type 0) (xs : List ℕ) (s t : S) → Each P (rest s) → Yields (YieldsFirst rest) s xs t → Each P (rest t)
yields_each rest P [] s t h e = subst (λ z. Each P (rest z)) e h
yields_each rest P (x ∷ xs) s t h y =
    let w : Each P (x ∷ rest y.0) = subst (Each P) y.1 h in
    yields_each rest P xs y.0 t w.1 y.2

module _ {F X : Type 0} {g : Mut F (ℕ × (ℕ × Unit {0})) (ControlFlow X ℕ)} (P : ℕ → Type 0) {f : F}
    (keeps : (b x : ℕ) (v : ControlFlow X ℕ) (h : F) → Called g f (b, (x, tt)) v h → h ≡ f) where
  turn_keeps : (x : ℕ) (p q : F × ℕ) → p.0 ≡ f → TryFoldTurn g (λ v r. v ≡ control_flow_from_branch r) p x q → q.0 ≡ f
  turn_keeps x p q e t = keeps p.1 x t.0 q.0 (subst (λ z. Called g z (p.1, (x, tt)) t.0 q.0) e t.1)

  turns_keep : (xs : List ℕ) (p q : F × ℕ) → p.0 ≡ f → FoldsTo (TryFoldTurn g (λ v r. v ≡ control_flow_from_branch r)) p xs q → q.0 ≡ f
  turns_keep [] p q e t = subst (λ z. z.0 ≡ f) t e
  turns_keep (x ∷ xs) p q e t = turns_keep xs t.0 q (turn_keeps x p t.0 e t.1) t.2

  -- the closure may be called at each item, where it may be at one of which P holds
  fold_callable : {S : Type 0} {rest : S → List ℕ} {s : S} {init : ℕ} → Each P (rest s) → ((b x : ℕ) → P x → Takes g f (b, (x, tt)))
      → CallableInTryFold (YieldsFirst rest) g (λ v r. v ≡ control_flow_from_branch r) s f init
  fold_callable {rest = rest} {s = s} {init = init} each takes =
      record {
        at = λ xs t q x u ys ts e.
            let w : Each P (x ∷ rest u) = subst (Each P) e (yields_each rest P xs s t each ys) in
            subst (λ z. Takes g z (q.1, (x, tt))) (sym (turns_keep xs (f, init) q refl ts)) (takes q.1 x w.0);
      }

  module _ {S : Type 0} (rest : S → List ℕ) (look : ℕ → List X)
      (found : (b x : ℕ) (v : ControlFlow X ℕ) (h : F) → P x → Called g f (b, (x, tt)) v h → v ≡ item_from (look x) b) where
    passed : (xs : List ℕ) (s t : S) (p q : F × ℕ) → p.0 ≡ f → Each P (rest s) → Yields (YieldsFirst rest) s xs t
        → FoldsTo (TryFoldTurn g (λ v r. v ≡ control_flow_from_branch r)) p xs q
        → item_from (flat_map look (rest s)) p.1 ≡ item_from (flat_map look (rest t)) q.1
    unfolding flat_map
    passed [] s t p q k h y ts = ap (λ z. item_from (flat_map look (rest z)) p.1) y ∙ ap (λ z. item_from (flat_map look (rest t)) z.1) ts
    passed (x ∷ xs) s t p q k h y ts =
        let w : Each P (x ∷ rest y.0) = subst (Each P) y.1 h in
        let turn = ts.1 in
        let v = found p.1 x turn.0 ts.0.0 w.0 (subst (λ z. Called g z (p.1, (x, tt)) turn.0 ts.0.0) k turn.1) in
        ap (λ ps. item_from (flat_map look ps) p.1) y.1
        ∙ from_left (look x) (flat_map look (rest y.0)) p.1 ts.0.1 (sym v ∙ turn.2)
        ∙ passed xs y.0 t ts.0 q (turn_keeps x p ts.0 k turn) w.1 y.2 ts.2

    -- it gives number k of what the items hold
    fold_gives : (s u : S) (init : ℕ) (r : ControlFlow X ℕ) → Each P (rest s)
        → TryFoldsItems (YieldsFirst rest) g (λ v r. v ≡ control_flow_from_branch r) (λ e r. r ≡ Break e.0) s f init r u
        → r ≡ item_from (flat_map look (rest s)) init
    unfolding flat_map
    fold_gives s u init r each (xs, None, f', a, ys, ts, end) =
        sym (passed xs s ys.0 (f, init) (f', a) refl each ys.1 ts ∙ ap (λ ps. item_from (flat_map look ps) a) ys.2.0 ∙ sym end)
    fold_gives s u init r each (xs, Some x, f', a, ys, ts, end) =
        let w : Each P (x ∷ rest u) = subst (Each P) ys.2 (yields_each rest P xs s ys.0 each ys.1) in
        let k = turns_keep xs (f, init) (f', a) refl ts in
        let v = found a x end.0 end.1 w.0 (subst (λ z. Called g z (a, (x, tt)) end.0 end.1) k end.3) in
        sym (
        passed xs s ys.0 (f, init) (f', a) refl each ys.1 ts
        ∙ ap (λ ps. item_from (flat_map look ps) a) ys.2
        ∙ from_found (look x) (flat_map look (rest u)) a end.2.0 (sym v ∙ end.4)
        ∙ sym end.5
        )

-- ---- over the elements inside a list

abbrev left : Elements → List ℕ
left e = elements_left e.s.now e.at

each_left : (s : List ℕ) (list : ℕ) (e : Elements) → left e ≡ elements_in s list → Each (InPlace s) (left e)
each_left s list e q = rw q (elements_each s (list + 2))

module _ {F X : Type 0} {g : Mut F (ℕ × (ℕ × Unit {0})) (ControlFlow X ℕ)} {f : F}
    (keeps : (b x : ℕ) (v : ControlFlow X ℕ) (h : F) → Called g f (b, (x, tt)) v h → h ≡ f) (s : List ℕ) (list : ℕ) where
  pub walk_callable : {e : Elements} {k : ℕ} → left e ≡ elements_in s list → ((b x : ℕ) → InPlace s x → Takes g f (b, (x, tt)))
      → CallableInTryFold (YieldsFirst left) g (λ v r. v ≡ control_flow_from_branch r) e f k
  walk_callable {e = e} q takes = fold_callable (InPlace s) keeps (each_left s list e q) takes

  -- number k of what the elements hold, where the closure looks for it in what one holds
  pub walk_gives : (look : ℕ → List X)
      → ((b x : ℕ) (v : ControlFlow X ℕ) (h : F) → InPlace s x → Called g f (b, (x, tt)) v h → v ≡ item_from (look x) b)
      → (e u : Elements) (k : ℕ) (r : ControlFlow X ℕ) → left e ≡ elements_in s list
      → TryFoldsItems (YieldsFirst left) g (λ v r. v ≡ control_flow_from_branch r) (λ e r. r ≡ Break e.0) e f k r u
      → r ≡ item_from (flat_map look (elements_in s list)) k
  walk_gives look found e u k r q ran =
      fold_gives (InPlace s) keeps left look found e u k r (each_left s list e q) ran ∙ ap (λ ps. item_from (flat_map look ps) k) q
