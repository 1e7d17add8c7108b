-- Which refusal reading gives: 21 exactly where an element begins for which no depth is left, 20 exactly where there is neither such a place nor an
-- element that ends. Assumes nothing.
use mathlib.Core.Path.{◌≡◌, refl, sym, subst, ap, ◌∙◌}
use mathlib.Core.Logic.{◌⊎◌, inl, inr, ◌↔◌}
use mathlib.Core.List.{List}
use mathlib.Core.Bool.{true, false, cond, ◌&&◌}
use Prim.Native.Nat.{ℕ, zero, suc, ◌+◌, ◌-◌, ◌<◌}
use native.Mathlib.Omega.{arith}
use borrow.Author.Tests.{lt-ltb, le-leb, ne_eqb, ltb-true, ltb-false, eqb-true}
use lib.ListN.{length, get_or, get_or-eq_default}
use lib.IntN.{ℤ}
use lib.Dec.{ltb, leb, eqb}
use Rattle.laws.proofs.Tests.{never, bool_cases, both_pass, cond_passed}
use Rattle.laws.proofs.Choices.{cond_elim}
use Rattle.answers.specs.declared.Refusal.{Refusal}
use Rattle.answers.specs.declared.Refusal.TheVariants.{BadHeader, TooDeep}
use Rattle.std.specs.Prelude.{Result, Ok, Err}
use Rattle.elements.specs.declared.Span.{Span}
use Rattle.elements.specs.declared.Start.{Start}
use Rattle.elements.specs.declared.Form.{Form}
use Rattle.elements.specs.declared.Form.TheVariants as F
use Rattle.elements.specs.Grammar.{in_range, may_begin, may_follow, may_close}
use Rattle.elements.specs.Parts.{bytes_of, part_at, integer_allowed, integer_part, long_part, text_part, integer_in, integer_at, text_at}
use Rattle.elements.specs.Reading.{bad, opens, closes, begins, too_deep, end_of, started, start_of, and_then, closed_at, list_end, rest_of, read}
use Rattle.elements.specs.Statement.{Byte, IntegerElement, TextElement, Nested}
use Rattle.elements.specs.Written.{text_written, integer_written}
use Rattle.elements.specs.Deep.{Begins, Leads, GoesDown, Deep, TooDeepAt}
use Rattle.elements.specs.Deep as D
use Rattle.elements.proofs.Parts.{range_parts}
use Rattle.elements.proofs.Reading.{ends-within, rest_started}
use Rattle.elements.proofs.Began.{open_byte, byte_open, byte_not_close, began_read, read_byte}
use Rattle.elements.proofs.Began as G
use Rattle.elements.proofs.Exact.{integer-reads, text-reads, nested_reads}
use Rattle.elements.proofs.Written.{text_written_lem, integer_written_lem}

-- ---- an element gives 20 or 21 and nothing else, and what has nothing inside it 20

abbrev Gives : (Refusal → Type 0) → Result ℕ Refusal → Type 0
Gives P (Ok n) = Unit {0}
Gives P (Err r) = P r

abbrev Malformed : Refusal → Type 0
Malformed r = r ≡ BadHeader

abbrev MalformedOrDeep : Refusal → Type 0
MalformedOrDeep r = (r ≡ BadHeader) ⊎ (r ≡ TooDeep)

part_bad : (s : List ℕ) (at n : ℕ) → Gives Malformed (end_of (part_at s at n))
unfolding part_at
part_bad s at n = cond_elim (λ (x : Result Span Refusal). Gives Malformed (end_of x)) (leb (at + n) (length s)) (λ _. tt) (λ _. refl)

integer-bad : (s : List ℕ) (at : ℕ) → Gives Malformed (end_of (integer_part s at))
unfolding integer_part
integer-bad s at =
    cond_elim (λ (x : Result Span Refusal). Gives Malformed (end_of x))
    (ltb at (length s) && leb (at + 1 + get_or s at 0) (length s) && integer_allowed (bytes_of s (at + 1) (get_or s at 0))) (λ _. tt) (λ _. refl)

text-bad : (s : List ℕ) (at : ℕ) → Gives Malformed (end_of (text_part s at))
unfolding text_part long_part
text-bad s at =
    let P : Result Span Refusal → Type 0 = λ x. Gives Malformed (end_of x) in
    cond_elim P (ltb at (length s))
    (λ _. cond_elim P (ltb (get_or s at 0) 128) (λ _. part_bad s (at + 1) (get_or s at 0))
    (λ _. cond_elim P (in_range 129 132 (get_or s at 0))
    (λ _. cond_elim P (leb (at + 1 + (get_or s at 0 - 128)) (length s)) (λ _. part_bad s (at + 1 + (get_or s at 0 - 128)) _) (λ _. refl))
    (λ _. refl)))
    (λ _. refl)

read_through : (inner : Form → ℕ → Result ℕ Refusal) (form : Form) (s : List ℕ) (at : ℕ) (x : Result ℕ Refusal) → Gives Malformed x
    → Gives MalformedOrDeep (rest_of inner form s at (started x))
read_through inner form s at (Ok n) g = tt
read_through inner form s at (Err r) g = inl g

then_gives : (x : Result ℕ Refusal) (more : ℕ → Result ℕ Refusal) → Gives MalformedOrDeep x → ((n : ℕ) → Gives MalformedOrDeep (more n))
    → Gives MalformedOrDeep (and_then x more)
then_gives (Ok n) more g h = h n
then_gives (Err r) more g h = g

closed_gives : (s : List ℕ) (x : Result ℕ Refusal) → Gives MalformedOrDeep x → Gives MalformedOrDeep (closed_at s x)
closed_gives s (Ok n) g = cond_elim (Gives MalformedOrDeep) (closes s n) (λ _. tt) (λ _. inl refl)
closed_gives s (Err r) g = g

list_gives : (inner : ℕ → Result ℕ Refusal) (form : Form) → ((n : ℕ) → Gives MalformedOrDeep (inner n)) → (turns low : ℕ) (s : List ℕ) (at : ℕ)
    → Gives MalformedOrDeep (list_end inner form turns low s at)
unfolding list_end
list_gives inner form h zero low s at = inl refl
list_gives inner form h (suc turns) low s at =
    cond_elim (Gives MalformedOrDeep) (closes s at) (λ _. cond_elim (Gives MalformedOrDeep) (may_close form low) (λ _. tt) (λ _. inl refl))
    (λ _. cond_elim (Gives MalformedOrDeep) (may_follow form low (get_or s at 0))
    (λ _. then_gives (inner at) (λ n. list_end inner form turns (get_or s at 0 + 1) s n) (h at) (λ n. list_gives inner form h turns (get_or s at 0 + 1) s n))
    (λ _. inl refl))

rest_gives : (inner : Form → ℕ → Result ℕ Refusal) (form : Form) (s : List ℕ) (at : ℕ) → ((i : Form) (n : ℕ) → Gives MalformedOrDeep (inner i n))
    → Gives MalformedOrDeep (rest_of inner form s at (start_of form s at))
unfolding start_of
rest_gives inner form s at h =
    let b = get_or s at 0 in
    let P : Result Start Refusal → Type 0 = λ x. Gives MalformedOrDeep (rest_of inner form s at x) in
    cond_elim P (ltb at (length s) && may_begin form b)
    (λ _. cond_elim P (eqb b 2) (λ _. read_through inner form s at (end_of (integer_part s (at + 1))) (integer-bad s (at + 1)))
    (λ _. cond_elim P (eqb b 26) (λ _. read_through inner form s at (end_of (text_part s (at + 1))) (text-bad s (at + 1)))
    (λ _. cond_elim P (opens s (at + 1))
    (λ _. cond_elim P (eqb b 48) (λ _. list_gives (inner _) form (h _) (length s) 160 s (at + 2))
    (λ _. cond_elim P (in_range 160 179 b) (λ _. closed_gives s (inner _ (at + 2)) (h _ (at + 2))) (λ _. inl refl)))
    (λ _. inl refl))))
    (λ _. inl refl)

read_gives : (depth : ℕ) (form : Form) (s : List ℕ) (at : ℕ) → Gives MalformedOrDeep (read depth form s at)
unfolding read too_deep
read_gives zero form s at = cond_elim (Gives MalformedOrDeep) (begins (get_or s at 0)) (λ _. inr refl) (λ _. inl refl)
read_gives (suc depth) form s at = rest_gives (λ i n. read depth i s n) form s at (λ i n. read_gives depth i s n)

-- An element of any form gives 20 or 21 and nothing else.
pub read_refusals : (depth : ℕ) (form : Form) (s : List ℕ) (at : ℕ) (r : Refusal) → read depth form s at ≡ Err r → (r ≡ BadHeader) ⊎ (r ≡ TooDeep)
read_refusals depth form s at r e = subst (Gives MalformedOrDeep) e (read_gives depth form s at)

bad-not_deep : {A : Type 0} → BadHeader ≡ TooDeep → A
bad-not_deep e = absurd (let z : ◌≡◌ {A = ℕ} 0 1 = cc in omega arith)

end_not_deep : {A : Type 0} (n : ℕ) → Ok n ≡ Err TooDeep → A
end_not_deep n e = absurd (let z : ◌≡◌ {A = ℕ} 0 1 = cc in omega arith)

not_deep : {A : Type 0} (x : Result ℕ Refusal) → Gives Malformed x → x ≡ Err TooDeep → A
not_deep (Ok n) g e = end_not_deep n e
not_deep (Err r) g e = bad-not_deep (let q : r ≡ TooDeep = cc in sym g ∙ q)

-- ---- the byte at which reading goes down, or ends with 21

-- a byte other than 0 is none past the end
byte_there : (s : List ℕ) (at b : ℕ) → get_or s at 0 ≡ b → 0 < b → Byte s at b
byte_there s at b e h =
    bool_cases (ltb at (length s)) (λ t. record { there = ltb-true at (length s) t; is = e })
    (λ f. let z : get_or s at 0 ≡ 0 = get_or-eq_default s 0 (ltb-false at (length s) f) in absurd (omega arith))

begins_byte : (s : List ℕ) (at : ℕ) → begins (get_or s at 0) ≡ true → Begins s at
begins_byte s at e =
    let b = get_or s at 0 in
    bool_cases (eqb b 2) (λ q. D.integer (byte_there s at 2 (eqb-true b 2 q) (omega arith)))
    (λ n2. bool_cases (eqb b 26) (λ q. D.text (byte_there s at 26 (eqb-true b 26 q) (omega arith)))
    (λ n26. bool_cases (eqb b 48) (λ q. D.list (byte_there s at 48 (eqb-true b 48 q) (omega arith)))
    (λ n48. bool_cases (in_range 160 179 b)
    (λ r. let g = range_parts 160 179 b r in D.choice b g.0 g.1 (byte_there s at b refl (omega (arith, g.0))))
    (λ n. let f : begins b ≡ false = rw (n2, n26, n48, n) in never (sym f ∙ e)))))

byte_begins : (s : List ℕ) (at : ℕ) → Begins s at → begins (get_or s at 0) ≡ true
byte_begins s at (D.integer y) = rw y.is
byte_begins s at (D.text y) = rw y.is
byte_begins s at (D.list y) = rw y.is
byte_begins s at (D.choice tag l h y) =
    let n2 : tag ≡ 2 → ⊥ = λ z. omega arith in
    let n26 : tag ≡ 26 → ⊥ = λ z. omega arith in
    let n48 : tag ≡ 48 → ⊥ = λ z. omega arith in
    rw (y.is, ne_eqb _ _ n2, ne_eqb _ _ n26, ne_eqb _ _ n48, le-leb _ _ l, le-leb _ _ h)

begun : (s : List ℕ) (at : ℕ) → Begins s at → (at < length s) × (get_or s at 0 ≡ 0 → ⊥)
begun s at (D.integer y) = (y.there, λ z. let q = y.is in omega arith)
begun s at (D.text y) = (y.there, λ z. let q = y.is in omega arith)
begun s at (D.list y) = (y.there, λ z. let q = y.is in omega arith)
begun s at (D.choice tag l h y) = (y.there, λ z. let q = y.is in omega arith)

deep_byte : (depth : ℕ) (s : List ℕ) (p at : ℕ) → Deep depth s p at → Begins s at
deep_byte zero s p at d = d.1
deep_byte (suc depth) s p at (D.list y o t) = D.list y
deep_byte (suc depth) s p at (D.choice tag l h y o t) = D.choice tag l h y

-- ---- down from an element, where the elements inside it give 21 at such places

then_deep : (x : Result ℕ Refusal) (more : ℕ → Result ℕ Refusal) → and_then x more ≡ Err TooDeep
    → (x ≡ Err TooDeep) ⊎ ((m : ℕ) × (x ≡ Ok m) × (more m ≡ Err TooDeep))
then_deep (Ok m) more e = inr (m, refl, e)
then_deep (Err r) more e = inl e

closed_deep : (s : List ℕ) (x : Result ℕ Refusal) → closed_at s x ≡ Err TooDeep → x ≡ Err TooDeep
closed_deep s (Ok n) e =
    cond_elim (λ (y : Result ℕ Refusal). y ≡ Err TooDeep → Ok n ≡ Err TooDeep) (closes s n) (λ _ f. end_not_deep (n + 2) f)
    (λ _ f. not_deep bad refl f) e
closed_deep s (Err r) e = e

module _ (depth : ℕ) (s : List ℕ) where
  module _ (sound : (at : ℕ) → read depth F.Any s at ≡ Err TooDeep → TooDeepAt depth s at) where
    list_down : (turns low at : ℕ) → list_end (read depth F.Any s) F.Any turns low s at ≡ Err TooDeep → (p : ℕ) × Leads (Nested depth s) (Deep depth s p) at
    unfolding list_end
    list_down zero low at e = not_deep bad refl e
    list_down (suc turns) low at e =
        cond_elim (λ (x : Result ℕ Refusal). x ≡ Err TooDeep → (p : ℕ) × Leads (Nested depth s) (Deep depth s p) at) (closes s at)
        (λ _ e. end_not_deep (at + 2) e)
        (λ _ e. go (λ m f. list_down turns (get_or s at 0 + 1) m f)
        (then_deep (read depth F.Any s at) (λ n. list_end (read depth F.Any s) F.Any turns (get_or s at 0 + 1) s n) e))
        e
      where
        go : ((m : ℕ) → list_end (read depth F.Any s) F.Any turns (get_or s at 0 + 1) s m ≡ Err TooDeep → (p : ℕ) × Leads (Nested depth s) (Deep depth s p) m)
            → (read depth F.Any s at ≡ Err TooDeep)
            ⊎ ((m : ℕ) × (read depth F.Any s at ≡ Ok m) × (list_end (read depth F.Any s) F.Any turns (get_or s at 0 + 1) s m ≡ Err TooDeep))
            → (p : ℕ) × Leads (Nested depth s) (Deep depth s p) at
        go more (inl f) = let w = sound at f in (w.0, D.into w.1)
        go more (inr (m, f, g)) = let w = more m g in (w.0, D.past ((nested_reads depth s).sound at m f) w.1)

    goes_down : (at : ℕ) → rest_of (λ i n. read depth i s n) F.Any s at (start_of F.Any s at) ≡ Err TooDeep → TooDeepAt (suc depth) s at
    unfolding start_of
    goes_down at =
        let b = get_or s at 0 in
        let P : Result Start Refusal → Type 0 = λ x. rest_of (λ i n. read depth i s n) F.Any s at x ≡ Err TooDeep → TooDeepAt (suc depth) s at in
        cond_elim P (ltb at (length s) && true)
        (λ t.
        let there : at < length s = ltb-true at (length s) (both_pass (ltb at (length s)) true t).0 in
        cond_elim P (eqb b 2) (λ _ e. not_deep (end_of (integer_part s (at + 1))) (integer-bad s (at + 1)) (sym (rest_started _ F.Any s at _) ∙ e))
        (λ _. cond_elim P (eqb b 26) (λ _ e. not_deep (end_of (text_part s (at + 1))) (text-bad s (at + 1)) (sym (rest_started _ F.Any s at _) ∙ e))
        (λ _. cond_elim P (opens s (at + 1))
        (λ o. cond_elim P (eqb b 48)
        (λ q e. let w = list_down (length s) 160 (at + 2) e in (w.0, D.list (record { there = there; is = eqb-true b 48 q }) (open_byte s (at + 1) o) w.1))
        (λ _. cond_elim P (in_range 160 179 b)
        (λ r e.
        let w = sound (at + 2) (closed_deep s (read depth F.Any s (at + 2)) e) in
        (w.0, D.choice b (range_parts 160 179 b r).0 (range_parts 160 179 b r).1 (record { there = there; is = refl }) (open_byte s (at + 1) o) w.1))
        (λ _ e. not_deep bad refl e)))
        (λ _ e. not_deep bad refl e))))
        (λ _ e. not_deep bad refl e)

  module _ (p : ℕ) (full : (at : ℕ) → Deep depth s p at → read depth F.Any s at ≡ Err TooDeep) where
    down_list : (turns low at : ℕ) → length s < turns + at → Leads (Nested depth s) (Deep depth s p) at
        → list_end (read depth F.Any s) F.Any turns low s at ≡ Err TooDeep
    unfolding list_end
    down_list zero low at l (D.into d) = let w = begun s at (deep_byte depth s p at d) in absurd (omega (arith, w.0))
    down_list (suc turns) low at l (D.into d) = rw (byte_not_close s at (begun s at (deep_byte depth s p at d)).1, full at d)
    down_list zero low at l (D.past {q} o t) = let w = ends-within depth F.Any s at q ((nested_reads depth s).full at q o) in absurd (omega arith)
    down_list (suc turns) low at l (D.past {q} o t) =
        let e = (nested_reads depth s).full at q o in
        let w = ends-within depth F.Any s at q e in
        rw (byte_not_close s at (read_byte depth F.Any s at q e), e) (down_list turns (get_or s at 0 + 1) q (omega (arith, w.0)) t)

    down_goes : (at : ℕ) → GoesDown (Nested depth s) (Deep depth s p) s at → rest_of (λ i n. read depth i s n) F.Any s at (start_of F.Any s at) ≡ Err TooDeep
    unfolding start_of
    down_goes at (D.list y o t) = rw (lt-ltb _ _ y.there, y.is, byte_open s (at + 1) o) (down_list (length s) 160 (at + 2) (omega arith) t)
    down_goes at (D.choice tag l h y o d) =
        let n2 : tag ≡ 2 → ⊥ = λ z. omega arith in
        let n26 : tag ≡ 26 → ⊥ = λ z. omega arith in
        let n48 : tag ≡ 48 → ⊥ = λ z. omega arith in
        rw (lt-ltb _ _ y.there, y.is, ne_eqb _ _ n2, ne_eqb _ _ n26, ne_eqb _ _ n48, byte_open s (at + 1) o, le-leb _ _ l, le-leb _ _ h)
        (ap (closed_at s) (full (at + 2) d))

-- ---- 21 and 20

deep_sound : (depth : ℕ) (s : List ℕ) (at : ℕ) → read depth F.Any s at ≡ Err TooDeep → TooDeepAt depth s at
unfolding read too_deep
deep_sound zero s at e = (at, (refl, begins_byte s at (cond_passed (begins (get_or s at 0)) (λ z. not_deep bad refl z) e).0))
deep_sound (suc depth) s at e = goes_down depth s (deep_sound depth s) at e

deep_full : (depth : ℕ) (s : List ℕ) (p at : ℕ) → Deep depth s p at → read depth F.Any s at ≡ Err TooDeep
unfolding read too_deep
deep_full zero s p at d = rw (byte_begins s at d.1)
deep_full (suc depth) s p at d = down_goes depth s p (deep_full depth s p) at d

module _ (depth : ℕ) (s : List ℕ) (at : ℕ) where
  -- 21 exactly where reading goes down to an element that begins with no depth left
  pub deep_exact : (read depth F.Any s at ≡ Err TooDeep) ↔ TooDeepAt depth s at
  deep_exact = (deep_sound depth s at, λ w. deep_full depth s w.0 at w.1)

  -- 20 exactly where it doesn't, and no element ends
  pub bad_exact : (read depth F.Any s at ≡ Err BadHeader) ↔ ((TooDeepAt depth s at → ⊥) × ((n : ℕ) → Nested depth s at n → ⊥))
  bad_exact = (
    λ e. (
      λ w. bad-not_deep (let q : Err BadHeader ≡ Err TooDeep = sym e ∙ deep_exact.1 w in let z : BadHeader ≡ TooDeep = cc in z),
      λ n o. let q : Ok n ≡ Err BadHeader = sym ((nested_reads depth s).full at n o) ∙ e in let z : ◌≡◌ {A = ℕ} 0 1 = cc in omega arith,
    ),
    λ w. go w (read depth F.Any s at) refl,
  )
    where
      go : (TooDeepAt depth s at → ⊥) × ((n : ℕ) → Nested depth s at n → ⊥) → (x : Result ℕ Refusal) → read depth F.Any s at ≡ x
          → read depth F.Any s at ≡ Err BadHeader
      go w (Ok n) e = absurd (w.1 n ((nested_reads depth s).sound at n e))
      go w (Err r) e = which (read_refusals depth F.Any s at r e)
        where
          which : (r ≡ BadHeader) ⊎ (r ≡ TooDeep) → read depth F.Any s at ≡ Err BadHeader
          which (inl q) = e ∙ ap Err q
          which (inr q) = absurd (w.0 (deep_exact.0 (e ∙ ap Err q)))

-- ---- an integer or a text alone: 20 exactly where none stands there, and nothing else

module _ (s : List ℕ) (at : ℕ) where
  integer-there : (t : Span) → Byte s at 2 → integer_part s (at + 1) ≡ Ok t → IntegerElement s at (t.start + t.len)
  integer-there t y e = (integer-reads 0 s).sound at (t.start + t.len) (began_read 0 F.Integer s at (t.start + t.len) (G.integer refl y (ap end_of e)))

  -- an integer that is read is one of the plain statement, and its number is what that writes
  pub integer_found : (z : ℤ) → integer_at s at ≡ Ok z → (n : ℕ) × (i : IntegerElement s at n) × (integer_written i ≡ z)
  unfolding integer_at
  integer_found z e =
      let p = cond_passed (eqb (get_or s at 0) 2) refused e in
      found (byte_there s at 2 (eqb-true (get_or s at 0) 2 p.0) (omega arith)) (integer_part s (at + 1)) refl p.1
    where
      refused : {r : Refusal} → Err r ≡ Ok z → ⊥
      refused q = let w : ◌≡◌ {A = ℕ} 0 1 = cc in omega arith

      found : Byte s at 2 → (x : Result Span Refusal) → integer_part s (at + 1) ≡ x → integer_in s x ≡ Ok z
          → (n : ℕ) × (i : IntegerElement s at n) × (integer_written i ≡ z)
      found y (Ok t) f q =
          let i = integer-there t y f in
          let w : Ok (integer_written i) ≡ Ok z = sym (integer_written_lem i) ∙ e in
          let v : integer_written i ≡ z = cc in
          (t.start + t.len, i, v)
      found y (Err r) f q = absurd (refused q)

  text-there : (t : Span) → Byte s at 26 → text_part s (at + 1) ≡ Ok t → TextElement s at (t.start + t.len)
  text-there t y e = (text-reads 0 s).sound at (t.start + t.len) (began_read 0 F.Text s at (t.start + t.len) (G.text refl y (ap end_of e)))

  module _ (r : Refusal) where
    pub integer_exact : (integer_at s at ≡ Err r) ↔ ((r ≡ BadHeader) × ((n : ℕ) → IntegerElement s at n → ⊥))
    unfolding integer_at
    integer_exact = (
      λ e. (only e, λ n i. let q : Ok (integer_written i) ≡ Err r = sym (integer_written_lem i) ∙ e in let z : ◌≡◌ {A = ℕ} 0 1 = cc in omega arith),
      λ w. cond_elim (λ (x : Result ℤ Refusal). x ≡ Err r) (eqb (get_or s at 0) 2) (λ t. none w (eqb-true (get_or s at 0) 2 t) (integer_part s (at + 1)) refl)
          (λ _. ap Err (sym w.0)),
    )
      where
        cause : (q : Refusal) → integer_part s (at + 1) ≡ Err q → q ≡ BadHeader
        cause q f = subst (λ (x : Result Span Refusal). Gives Malformed (end_of x)) f (integer-bad s (at + 1))

        which : (x : Result Span Refusal) → integer_part s (at + 1) ≡ x → integer_in s x ≡ Err r → r ≡ BadHeader
        which (Ok t) f e = absurd (let z : ◌≡◌ {A = ℕ} 0 1 = cc in omega arith)
        which (Err q) f e = let p : q ≡ r = cc in sym p ∙ cause q f

        only : cond (eqb (get_or s at 0) 2) (integer_in s (integer_part s (at + 1))) (Err BadHeader) ≡ Err r → r ≡ BadHeader
        only =
            cond_elim (λ (x : Result ℤ Refusal). x ≡ Err r → r ≡ BadHeader) (eqb (get_or s at 0) 2) (λ _. which (integer_part s (at + 1)) refl)
            (λ _ e. let p : BadHeader ≡ r = cc in sym p)

        none : (r ≡ BadHeader) × ((n : ℕ) → IntegerElement s at n → ⊥) → get_or s at 0 ≡ 2 → (x : Result Span Refusal) → integer_part s (at + 1) ≡ x
            → integer_in s x ≡ Err r
        none w b (Ok t) f = absurd (w.1 (t.start + t.len) (integer-there t (byte_there s at 2 b (omega arith)) f))
        none w b (Err q) f = ap Err (cause q f ∙ sym w.0)

    pub text_exact : (text_at s at ≡ Err r) ↔ ((r ≡ BadHeader) × ((n : ℕ) → TextElement s at n → ⊥))
    unfolding text_at
    text_exact = (
      λ e. (only e, λ n i. let q : Ok (text_written i) ≡ Err r = sym (text_written_lem i) ∙ e in let z : ◌≡◌ {A = ℕ} 0 1 = cc in omega arith),
      λ w. cond_elim (λ (x : Result Span Refusal). x ≡ Err r) (eqb (get_or s at 0) 26) (λ t. none w (eqb-true (get_or s at 0) 26 t) (text_part s (at + 1)) refl)
          (λ _. ap Err (sym w.0)),
    )
      where
        cause : (q : Refusal) → text_part s (at + 1) ≡ Err q → q ≡ BadHeader
        cause q f = subst (λ (x : Result Span Refusal). Gives Malformed (end_of x)) f (text-bad s (at + 1))

        only : cond (eqb (get_or s at 0) 26) (text_part s (at + 1)) (Err BadHeader) ≡ Err r → r ≡ BadHeader
        only =
            cond_elim (λ (x : Result Span Refusal). x ≡ Err r → r ≡ BadHeader) (eqb (get_or s at 0) 26) (λ _ e. cause r e)
            (λ _ e. let p : BadHeader ≡ r = cc in sym p)

        none : (r ≡ BadHeader) × ((n : ℕ) → TextElement s at n → ⊥) → get_or s at 0 ≡ 26 → (x : Result Span Refusal) → text_part s (at + 1) ≡ x
            → text_part s (at + 1) ≡ Err r
        none w b (Ok t) f = absurd (w.1 (t.start + t.len) (text-there t (byte_there s at 26 b (omega arith)) f))
        none w b (Err q) f = f ∙ ap Err (cause q f ∙ sym w.0)
