-- Lists written into lists: a loop that stores one element after another, or one part after another. Assumes nothing.
use mathlib.Core.Path.{◌≡◌, sym, ap, ◌∙◌}
use mathlib.Core.List.{List, [], ◌∷◌, ◌++◌, append_assoc}
use Prim.Native.Nat.{ℕ, ◌+◌, ◌-◌, ◌≤◌, ◌<◌}
use native.Mathlib.Nat.{add_assoc}
use native.Mathlib.Numerals.{add-one}
use native.Mathlib.Omega.{arith}
use lib.ListN.{length, take, drop, get_or, set, length-append, length-take, length-drop, take-append-drop}
use lib.Seq.{paste, paste-suc, length_paste_head, length-take-le, take-length, take_at, drop_at}
use lib.Seq.{take-add, drop-drop, take-append_seam, drop-append_seam, drop-cons}
use Rattle.laws.specs.Writing.{written_at}

module _ {ℓ} {A : Type ℓ} where
  -- a whole list pasted is the list written at its place
  pub paste_whole : (place : ℕ) (new old : List A) → paste old place new (length new) ≡ written_at place new old
  paste_whole place new old = rw take-length

  -- writing keeps the length
  pub length_written : (place : ℕ) (new old : List A) → place + length new ≤ length old → length (written_at place new old) ≡ length old
  length_written place new old h = simp (length-append, length-take, length-drop) (omega arith)

  -- lists that are alike from a place on are so from a later one on
  pub drop-later : (a b : ℕ) (xs ys : List A) → a ≤ b → drop a xs ≡ drop a ys → drop b xs ≡ drop b ys
  drop-later a b xs ys h e =
      let m : a + (b - a) ≡ b = omega arith in
      ap (λ (k : ℕ). drop k xs) (sym m)
      ∙ sym (drop-drop (b - a) a xs)
      ∙ ap (drop (b - a)) e
      ∙ drop-drop (b - a) a ys
      ∙ ap (λ (k : ℕ). drop k ys) m

  -- a part of S written after the part before it
  pub paste_part : (d : List A) (at : ℕ) (S : List A) (n : ℕ) (xs rest : List A) → at ≤ length d → n ≤ length S → drop n S ≡ xs ++ rest
      → paste (paste d at S n) (at + n) xs (length xs) ≡ paste d at S (n + length xs)
  paste_part d at S n xs rest h k e =
      let H = take at d ++ take n S in
      let X = H ++ drop (at + n) d in
      let len = length_paste_head d at S n h k in
      let a : take (at + n) X ≡ H = take_at H (drop (at + n) d) (at + n) len in
      let b : drop (at + n + length xs) X ≡ drop (at + (n + length xs)) d =
      sym (drop-drop (length xs) (at + n) X) ∙ (ap (λ (l : List A). drop (length xs) l) (drop_at H (drop (at + n) d) (at + n) len)
      ∙ (drop-drop (length xs) (at + n) d ∙ ap (λ (m : ℕ). drop m d) (add_assoc at n (length xs)))) in
      let c : take (n + length xs) S ≡ take n S ++ xs =
      take-add n (length xs) S ∙ ap (λ (l : List A). take n S ++ l) (ap (λ (l : List A). take (length xs) l) e ∙ take-append_seam xs rest) in
      rw (a, b, c, take-length, append_assoc (take at d) (take n S) xs)

  -- what is left of S after that part
  pub rest_part : (S : List A) (n : ℕ) (xs rest : List A) → drop n S ≡ xs ++ rest → drop (n + length xs) S ≡ rest
  rest_part S n xs rest e = sym (drop-drop (length xs) n S) ∙ (ap (λ (l : List A). drop (length xs) l) e ∙ drop-append_seam xs rest)

  -- two lists written one after the other are their join, written at once
  pub written_twice : (place : ℕ) (xs ys old : List A) → place + length xs + length ys ≤ length old
      → written_at (place + length xs) ys (written_at place xs old) ≡ written_at place (xs ++ ys) old
  written_twice place xs ys old h =
      let t : length (take place old ++ xs) ≡ place + length xs = simp (length-append, length-take) (omega arith) in
      let e : written_at place xs old ≡ (take place old ++ xs) ++ drop (place + length xs) old = simp append_assoc in
      let a : take (place + length xs) (written_at place xs old) ≡ take place old ++ xs =
      ap (λ (l : List A). take (place + length xs) l) e ∙ take_at (take place old ++ xs) (drop (place + length xs) old) (place + length xs) t in
      let b : drop (place + length xs + length ys) (written_at place xs old) ≡ drop (place + length (xs ++ ys)) old =
      sym (drop-drop (length ys) (place + length xs) (written_at place xs old))
      ∙ ap (λ (l : List A). drop (length ys) l) (ap (λ (l : List A). drop (place + length xs) l) e ∙ drop_at (take place old ++ xs)
      (drop (place + length xs) old) (place + length xs) t)
      ∙ drop-drop (length ys) (place + length xs) old
      ∙ ap (λ (m : ℕ). drop m old) (add_assoc place (length xs) (length ys) ∙ ap (λ (m : ℕ). place + m) (sym (length-append xs ys))) in
      rw (a, b) (simp append_assoc)

  -- what is written at a place covers what was written there before
  pub written_again : (place : ℕ) (ys zs old : List A) → place + length ys ≤ length old → length zs ≤ length ys
      → written_at place ys (written_at place zs old) ≡ written_at place ys old
  written_again place ys zs old h l =
      let t : length (take place old) ≡ place = rw length-take (omega arith) in
      let f : length (take place old ++ zs) ≡ place + length zs = simp (length-append, length-take) (omega arith) in
      let e : written_at place zs old ≡ take place old ++ (zs ++ drop (place + length zs) old) = append_assoc (take place old) zs
      (drop (place + length zs) old) in
      let a : take place (written_at place zs old) ≡ take place old =
      ap (λ (l : List A). take place l) e ∙ take_at (take place old) (zs ++ drop (place + length zs) old) place t in
      let b : drop (place + length ys) (written_at place zs old) ≡ drop (place + length ys) old =
      drop-later (place + length zs) (place + length ys) (written_at place zs old) old (omega arith)
      (drop_at (take place old ++ zs) (drop (place + length zs) old) (place + length zs) f) in
      rw (a, b)

  -- a list written over the end of another, from its element i on
  pub written_over : (place i : ℕ) (xs ys old : List A) → i ≤ length xs → length xs ≤ i + length ys → place + i + length ys ≤ length old
      → written_at (place + i) ys (written_at place xs old) ≡ written_at place (take i xs ++ ys) old
  written_over place i xs ys old h l r =
      let n : length (take i xs) ≡ i = length-take-le i xs h in
      let m : length (drop i xs) ≡ length xs - i = length-drop i xs in
      let s = written_at place (take i xs) old in
      let e : written_at place xs old ≡ written_at (place + i) (drop i xs) s =
      ap (λ (l : List A). written_at place l old) (sym (take-append-drop i xs))
      ∙ sym (written_twice place (take i xs) (drop i xs) old (omega arith))
      ∙ ap (λ (k : ℕ). written_at (place + k) (drop i xs) s) n in
      let c : length s ≡ length old = length_written place (take i xs) old (omega arith) in
      ap (λ (l : List A). written_at (place + i) ys l) e
      ∙ written_again (place + i) ys (drop i xs) s (omega arith) (omega arith)
      ∙ ap (λ (k : ℕ). written_at (place + k) ys s) (sym n)
      ∙ written_twice place (take i xs) ys old (omega arith)

-- the element at a place and what follows it
pub drop-step : (s : List ℕ) (i d : ℕ) → i < length s → drop i s ≡ get_or s i d ∷ drop (i + 1) s
drop-step s i d h = rw (add-one, drop-cons s i d)

-- a turn of a loop that writes the elements of S one by one
pub write_step : (d : List ℕ) (at : ℕ) (S : List ℕ) (j x : ℕ) (rest : List ℕ) → at + j < length d → drop j S ≡ x ∷ rest
    → set (paste d at S j) (at + j) x ≡ paste d at S (j + 1)
write_step d at S j x rest h e =
    let k : j < length S = omega (arith, length-drop j S, ap length e) in
    let g : get_or S j 0 ≡ x = sym (ap (λ (l : List ℕ). get_or l 0 0) (drop-cons S j 0 k)) ∙ ap (λ (l : List ℕ). get_or l 0 0) e in
    rw add-one (rw (← g) (paste-suc d at S j 0 h k))

pub rest_step : (S : List ℕ) (j x : ℕ) (rest : List ℕ) → drop j S ≡ x ∷ rest → drop (j + 1) S ≡ rest
rest_step S j x rest e = rest_part S j (x ∷ []) rest e
