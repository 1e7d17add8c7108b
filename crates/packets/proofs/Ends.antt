-- At most one list of ends makes a body of packets well formed. Assumes nothing.
use mathlib.Core.Path.{◌≡◌, refl, sym, ap, ap₂, ◌∙◌}
use mathlib.Core.Bool.{Bool, true, false}
use mathlib.Core.List.{List, [], ◌∷◌, ◌++◌}
use Prim.Native.Nat.{ℕ, zero, suc, ◌≤◌, ◌<◌}
use native.Mathlib.Omega.{arith}
use lib.ListN.{length, take, drop, take-append-drop}
use lib.Seq.{slice, length-slice, drop-append-le, length-take-le}
use lib.Dec.{ltb→lt, leb→le}
use lib.IntN.{ℤ, pos, negsuc}
use lib.Signed.{◌≤ℤ◌, ◌<ℤ◌, le_z_yes}
use Rattle.laws.proofs.Tests.{never, both_pass}
use Rattle.packets.specs.Runs.{ends_run, inner, final, formed, well_formed}
use Rattle.packets.specs.Ends.{after, last_place, between, MakesAfter, Makes}
use Rattle.packets.proofs.Shapes.{final_bit, inner_bit}

clash {ℓ} : {X : Type ℓ} (p q : ℕ) → p ≡ q → ends_run p ≡ true → ends_run q ≡ false → X
clash p q e t f = never (sym f ∙ (rw (← e) t))

-- two runs that begin one list are the same run, whatever their alphabets
pub cut : (a b : ℕ) (w w' : Bool) (r r' t t' : List ℕ) → formed a w r ≡ true → formed b w' r' ≡ true → r ++ t ≡ r' ++ t' → (r ≡ r') × (t ≡ t')
unfolding formed
cut a b w w' [] r' t t' e f q = never e
cut a b w w' (p ∷ []) [] t t' e f q = never f
cut a b w w' (p ∷ p₂ ∷ ps) [] t t' e f q = never f
cut a b w w' (p ∷ []) (q ∷ []) t t' e f s =
    let h : p ≡ q = cc in
    let k : t ≡ t' = cc in
    (ap (λ (x : ℕ). x ∷ []) h, k)
cut a b w w' (p ∷ []) (q ∷ q₂ ∷ qs) t t' e f s =
    let h : p ≡ q = cc in
    clash p q h (final_bit a p (both_pass (final a p) _ e).0) (inner_bit b q (both_pass (inner b q) _ f).0)
cut a b w w' (p ∷ p₂ ∷ ps) (q ∷ []) t t' e f s =
    let h : q ≡ p = cc in
    clash q p h (final_bit b q (both_pass (final b q) _ f).0) (inner_bit a p (both_pass (inner a p) _ e).0)
cut a b w w' (p ∷ p₂ ∷ ps) (q ∷ q₂ ∷ qs) t t' e f s =
    let h : p ≡ q = cc in
    let k : (p₂ ∷ ps) ++ t ≡ (q₂ ∷ qs) ++ t' = cc in
    let r = cut a b false false (p₂ ∷ ps) (q₂ ∷ qs) t t' (both_pass (inner a p) _ e).1 (both_pass (inner b q) _ f).1 k in
    (ap₂ (λ (x : ℕ) (l : List ℕ). x ∷ l) h r.0, r.1)

pub whole : (a : ℕ) (ps : List ℕ) → well_formed a ps ≡ true → formed a true ps ≡ true
unfolding well_formed
whole a ps e = e

-- ---- places

-- at least -1
abbrev pub Low : ℤ → Type 0
Low z = negsuc 0 ≤ℤ z

-- an end above one that is at least -1 is a place
pub above : (b e : ℤ) → Low b → b <ℤ e → after b < after e
above (pos m) (pos n) l h = let k = ltb→lt m n h.lt in omega arith
above (pos m) (negsuc n) l h = absurd h.lt
above (negsuc m) (pos n) l h = omega arith
above (negsuc m) (negsuc n) l h = absurd (nothing (leb→le m 0 l.le) (ltb→lt n m h.lt))
  where
    nothing : m ≤ 0 → n < m → ⊥
    nothing x y = omega arith

pub low-next : (b e : ℤ) → Low b → b <ℤ e → Low e
low-next b (pos n) l h = le_z_yes tt
low-next (pos m) (negsuc n) l h = absurd h.lt
low-next (negsuc m) (negsuc n) l h = absurd (nothing (leb→le m 0 l.le) (ltb→lt n m h.lt))
  where
    nothing : m ≤ 0 → n < m → ⊥
    nothing x y = omega arith

-- an end is known by the place after it
pub same_end : (e f : ℤ) → Low e → Low f → after e ≡ after f → e ≡ f
same_end (pos m) (pos n) l k h = let i : m ≡ n = omega arith in ap pos i
same_end (pos m) (negsuc n) l k h = absurd (let z : ⊥ = omega arith in z)
same_end (negsuc m) (pos n) l k h = absurd (let z : ⊥ = omega arith in z)
same_end (negsuc m) (negsuc n) l k h =
    let x = leb→le m 0 l.le in
    let y = leb→le n 0 k.le in
    let i : m ≡ n = omega arith in
    ap negsuc i

pub after_last : (n : ℕ) → after (last_place n) ≡ n
after_last zero = refl
after_last (suc n) = refl

pub last-low : (n : ℕ) → Low (last_place n)
last-low zero = le_z_yes tt
last-low (suc n) = le_z_yes tt

pub makes_low : (a : ℕ) (ps : List ℕ) (b : ℤ) (es : List ℤ) → Low b → MakesAfter a ps b es → after b ≤ length ps
makes_low a ps b [] l h = let e = ap after h ∙ after_last (length ps) in omega arith
makes_low a ps b (e ∷ es) l h =
    let x = above b e l h.0 in
    let y = makes_low a ps e es (low-next b e l h.0) h.2 in
    omega arith

part_rest : (ps : List ℕ) (f t : ℕ) → f ≤ t → t ≤ length ps → slice f t ps ++ drop t ps ≡ drop f ps
part_rest ps f t h k =
    let l : f ≤ length (take t ps) = rw (length-take-le t ps k) h in
    sym (drop-append-le f (take t ps) (drop t ps) l) ∙ ap (λ (x : List ℕ). drop f x) (take-append-drop t ps)

ends-after : (a b' : ℕ) (ps : List ℕ) (b : ℤ) (es fs : List ℤ) → Low b → MakesAfter a ps b es → MakesAfter b' ps b fs → es ≡ fs
ends-after a b' ps b [] [] l x y = refl
ends-after a b' ps b [] (f ∷ fs) l x y =
    let p = above b f l y.0 in
    let q = makes_low b' ps f fs (low-next b f l y.0) y.2 in
    let e = ap after x ∙ after_last (length ps) in
    absurd (let z : ⊥ = omega arith in z)
ends-after a b' ps b (e ∷ es) [] l x y =
    let p = above b e l x.0 in
    let q = makes_low a ps e es (low-next b e l x.0) x.2 in
    let h = ap after y ∙ after_last (length ps) in
    absurd (let z : ⊥ = omega arith in z)
ends-after a b' ps b (e ∷ es) (f ∷ fs) l x y =
    let le = low-next b e l x.0 in
    let lf = low-next b f l y.0 in
    let p = above b e l x.0 in
    let q = above b f l y.0 in
    let u = makes_low a ps e es le x.2 in
    let v = makes_low b' ps f fs lf y.2 in
    let r = cut a b' true true (between ps b e) (between ps b f) (drop (after e) ps) (drop (after f) ps)
    (whole a (between ps b e) x.1) (whole b' (between ps b f) y.1)
    (part_rest ps (after b) (after e) (omega arith) u ∙ sym (part_rest ps (after b) (after f) (omega arith) v)) in
    let n : after e ≡ after f =
    omega (arith, ap length r.0, length-slice (after b) (after e) ps u, length-slice (after b) (after f) ps v) in
    let same : e ≡ f = same_end e f le lf n in
    ap₂ (λ (z : ℤ) (k : List ℤ). z ∷ k) same (ends-after a b' ps e es fs le x.2 (rw same y.2))

-- For every body of packets and every alphabet, at most one list of ends makes it well formed.
pub ends_unique : (a : ℕ) (ps : List ℕ) (es fs : List ℤ) → Makes a ps es → Makes a ps fs → es ≡ fs
ends_unique a ps es fs x y = ends-after a a ps (negsuc 0) es fs (le_z_yes tt) x y

-- The same where the two lists go by two alphabets: where runs end shows in the packets alone.
pub ends_same : (a b : ℕ) (ps : List ℕ) (es fs : List ℤ) → Makes a ps es → Makes b ps fs → es ≡ fs
ends_same a b ps es fs x y = ends-after a b ps (negsuc 0) es fs (le_z_yes tt) x y
