-- Laws of the packing rule, packet by packet. Assumes nothing.
use mathlib.Core.Path.{◌≡◌, refl, sym, ap, ◌∙◌}
use mathlib.Core.Bool.{Bool, true, false, not}
use mathlib.Core.List.{List, [], ◌∷◌}
use Prim.Native.Nat.{ℕ, zero, suc, pred, ◌+◌, ◌^◌, ◌≤◌, ◌<◌, min}
use native.Mathlib.Omega.{arith}
use lib.Dec.{leb, ltb, lit≤, lit<}
use lib.ListN.{length, take, drop, get_or, length-drop, drop_of_length-le}
use lib.Seq.{length-take-le}
use borrow.Author.Tests.{lt-ltb, ltb-true, le-leb, lt-leb, leb-true, leb-false}
use Rattle.laws.specs.Digits.{value, all_below}
use Rattle.laws.proofs.Tests.{never, bool_cases, both_pass}
use Rattle.laws.proofs.Digits.{below_parts, below-cons, below_none, value-below}
use Rattle.residues.specs.Alphabets.{is_amino, code_limit}
use Rattle.std.specs.Prelude.{Some, None}
use Rattle.packets.specs.Packing.{plain, is_two_bit, size_of, filled, two_bit_part, next_two_bit, five_bit_part, end_bit, packet_of, size, packet, later, run}

-- ---- plain codes

pub plain-long : (n : ℕ) (cs : List ℕ) → plain n cs ≡ true → n ≤ length cs
unfolding plain
plain-long zero cs e = omega arith
plain-long (suc n) [] e = never e
plain-long (suc n) (c ∷ cs) e = omega (arith, plain-long n cs (both_pass (ltb c 4) (plain n cs) e).1)

-- what `search` and `grind` are handed to use it
pub ruleset of_plain = (plain-long)

pub plain-short : (n : ℕ) (cs : List ℕ) → length cs < n → plain n cs ≡ false
plain-short n cs h = bool_cases (plain n cs) (λ p. let z : ⊥ = omega (arith, plain-long n cs p) in absurd z) (λ p. p)

pub plain-below : (n : ℕ) (cs : List ℕ) → plain n cs ≡ true → all_below 4 (take n cs) ≡ true
unfolding plain
plain-below zero cs e = below_none 4
plain-below (suc n) [] e = never e
plain-below (suc n) (c ∷ cs) e =
    let p = both_pass (ltb c 4) (plain n cs) e in
    below-cons 4 c (take n cs) (ltb-true c 4 p.0) (plain-below n cs p.1)

-- enough codes, all below 4
pub below_plain : (n : ℕ) (cs : List ℕ) → n ≤ length cs → all_below 4 (take n cs) ≡ true → plain n cs ≡ true
unfolding plain
below_plain zero cs h e = refl
below_plain (suc n) [] h e = let z : ⊥ = omega arith in absurd z
below_plain (suc n) (c ∷ cs) h e =
    let p = below_parts 4 c (take n cs) e in
    rw (lt-ltb c 4 p.0) (below_plain n cs (omega arith) p.1)

-- the 2-bit packet that comes next is found exactly where fifteen do
pub two_found : (cs : List ℕ) (p : ℕ) → plain 15 cs ≡ true → p ≡ two_bit_part cs → Some p ≡ next_two_bit cs
unfolding next_two_bit
two_found cs p e f = rw (e, f)

pub two_missed : (cs : List ℕ) → plain 15 cs ≡ false → None ≡ next_two_bit cs
unfolding next_two_bit
two_missed cs e = rw e

pub found_two : (cs : List ℕ) (p : ℕ) → next_two_bit cs ≡ Some p → (plain 15 cs ≡ true) × (p ≡ two_bit_part cs)
found_two cs p f =
    bool_cases (plain 15 cs)
    (λ e. let g = two_found cs (two_bit_part cs) e refl ∙ f in (e, (cc)))
    (λ e. let g = two_missed cs e ∙ f in ((cc), (cc)))

pub missed_two : (cs : List ℕ) → next_two_bit cs ≡ None → plain 15 cs ≡ false
missed_two cs f = bool_cases (plain 15 cs) (λ e. let g = two_found cs (two_bit_part cs) e refl ∙ f in (cc)) (λ e. e)

-- ---- the codes of a packet

pub filled-cons : (n : ℕ) (cs : List ℕ) → filled (suc n) cs ≡ get_or cs 0 31 ∷ filled n (drop 1 cs)
unfolding filled
filled-cons n [] = refl
filled-cons n (c ∷ cs) = refl

pub filled_none : (cs : List ℕ) → filled 0 cs ≡ []
unfolding filled
filled_none cs = refl

pub length-filled : (n : ℕ) (cs : List ℕ) → length (filled n cs) ≡ n
unfolding filled
length-filled zero cs = refl
length-filled (suc n) [] = ap suc (length-filled n [])
length-filled (suc n) (c ∷ cs) = ap suc (length-filled n cs)

pub filled-below : (n : ℕ) (cs : List ℕ) → all_below 28 cs ≡ true → all_below 32 (filled n cs) ≡ true
unfolding filled
filled-below zero cs e = below_none 32
filled-below (suc n) [] e = below-cons 32 31 (filled n []) (omega arith) (filled-below n [] e)
filled-below (suc n) (c ∷ cs) e =
    let p = below_parts 28 c cs e in
    below-cons 32 c (filled n cs) (omega arith) (filled-below n cs p.1)

pub filled-whole : (n : ℕ) (cs : List ℕ) → n ≤ length cs → filled n cs ≡ take n cs
unfolding filled
filled-whole zero cs h = refl
filled-whole (suc n) [] h = let z : ⊥ = omega arith in absurd z
filled-whole (suc n) (c ∷ cs) h = ap (λ (l : List ℕ). c ∷ l) (filled-whole n cs (omega arith))

-- ---- which packet comes next

pub two_plain : (a : ℕ) (cs : List ℕ) → is_two_bit a cs ≡ true → (is_amino a ≡ false) × (plain 15 cs ≡ true)
unfolding is_two_bit
two_plain a cs e = go (is_amino a) (both_pass (not (is_amino a)) (plain 15 cs) e)
  where
    go : (b : Bool) → (not b ≡ true) × (plain 15 cs ≡ true) → (b ≡ false) × (plain 15 cs ≡ true)
    go true p = never p.0
    go false p = (refl, p.1)

pub plain_two : (a : ℕ) (cs : List ℕ) → is_amino a ≡ false → is_two_bit a cs ≡ plain 15 cs
unfolding is_two_bit
plain_two a cs e = rw e

pub amino_five : (a : ℕ) (cs : List ℕ) → is_amino a ≡ true → is_two_bit a cs ≡ false
unfolding is_two_bit
amino_five a cs e = rw e

pub two_long : (a : ℕ) (cs : List ℕ) → is_two_bit a cs ≡ true → 15 ≤ length cs
two_long a cs e = plain-long 15 cs (two_plain a cs e).1

-- fewer than fifteen residues are never a 2-bit packet
pub short_five : (a : ℕ) (cs : List ℕ) → length cs < 15 → is_two_bit a cs ≡ false
short_five a cs h = bool_cases (is_two_bit a cs) (λ t. let z : ⊥ = omega (arith, two_long a cs t) in absurd z) (λ f. f)

pub size_two : (a : ℕ) (cs : List ℕ) (left : ℕ) → is_two_bit a cs ≡ true → size_of a cs left ≡ 15
unfolding size_of
size_two a cs left e = rw e

pub size_five : (a : ℕ) (cs : List ℕ) (left : ℕ) → is_two_bit a cs ≡ false → size_of a cs left ≡ min 6 left
unfolding size_of
size_five a cs left e = rw e

pub size_le : (a : ℕ) (cs : List ℕ) → size a cs ≤ length cs
size_le a cs =
    bool_cases (is_two_bit a cs)
    (λ e. omega (arith, size_two a cs (length cs) e, two_long a cs e))
    (λ e. omega (arith, size_five a cs (length cs) e))

pub size-most : (a : ℕ) (cs : List ℕ) → size a cs ≤ 15
size-most a cs =
    bool_cases (is_two_bit a cs)
    (λ t. omega (arith, size_two a cs (length cs) t))
    (λ f. omega (arith, size_five a cs (length cs) f))

-- up to six residues are taken together
pub size-least : (a n : ℕ) (cs : List ℕ) → n ≤ 6 → n ≤ length cs → n ≤ size a cs
size-least a n cs l h =
    bool_cases (is_two_bit a cs)
    (λ e. omega (arith, size_two a cs (length cs) e))
    (λ e. omega (arith, size_five a cs (length cs) e))

pub size-some : (a : ℕ) (cs : List ℕ) → 0 < length cs → 0 < size a cs
size-some a cs h = omega (arith, size-least a 1 cs (lit≤ tt) (omega arith))

-- six residues are taken as long as there are six
pub size_six : (a : ℕ) (cs : List ℕ) → size a cs < length cs → 6 ≤ size a cs
size_six a cs h =
    bool_cases (is_two_bit a cs)
    (λ e. omega (arith, size_two a cs (length cs) e))
    (λ e. omega (arith, size_five a cs (length cs) e))

min_test : (n : ℕ) → leb n (min 6 n) ≡ leb n 6
min_test n =
    bool_cases (leb n 6)
    (λ e. le-leb n (min 6 n) (omega (arith, leb-true n 6 e)) ∙ sym e)
    (λ e. lt-leb n (min 6 n) (omega (arith, leb-false n 6 e)) ∙ sym e)

pub packet_two : (a : ℕ) (cs : List ℕ) (left : ℕ) → is_two_bit a cs ≡ true → packet_of a cs left ≡ end_bit (leb left 15) + two_bit_part cs
unfolding packet_of
packet_two a cs left e = rw (size_two a cs left e, e)

pub packet_five : (a : ℕ) (cs : List ℕ) (left : ℕ) → is_two_bit a cs ≡ false → packet_of a cs left ≡ end_bit (leb left 6) + five_bit_part cs
unfolding packet_of
packet_five a cs left e = rw (size_five a cs left e, e, min_test left)

-- ---- every packet is below 2^32

-- more than fifteen left are as good as sixteen
pub size-inner : (a : ℕ) (cs : List ℕ) (left : ℕ) → 15 < left → size_of a cs 16 ≡ size_of a cs left
size-inner a cs left h =
    bool_cases (is_two_bit a cs)
    (λ t. size_two a cs 16 t ∙ sym (size_two a cs left t))
    (λ f. let m : min 6 left ≡ 6 = omega arith in size_five a cs 16 f ∙ sym (size_five a cs left f ∙ m))

pub packet-inner : (a : ℕ) (cs : List ℕ) (left : ℕ) → 15 < left → packet_of a cs 16 ≡ packet_of a cs left
packet-inner a cs left h =
    bool_cases (is_two_bit a cs)
    (λ t. packet_two a cs 16 t ∙ sym (packet_two a cs left t ∙ rw (lt-leb left 15 h)))
    (λ f. packet_five a cs 16 f ∙ sym (packet_five a cs left f ∙ rw (lt-leb left 6 (omega arith))))

pub two_below : (cs : List ℕ) → plain 15 cs ≡ true → two_bit_part cs < 2 ^ 30
two_below cs e =
    let l : length (take 15 cs) ≡ 15 = length-take-le 15 cs (plain-long 15 cs e) in
    rw l at (value-below 2 (take 15 cs) (plain-below 15 cs e))

pub five_below : (cs : List ℕ) → all_below 28 cs ≡ true → value 5 0 (filled 6 cs) < 2 ^ 30
five_below cs e = rw (length-filled 6 cs) at (value-below 5 (filled 6 cs) (filled-below 6 cs e))

end_most : (b : Bool) → end_bit b ≤ 2 ^ 31
end_most true = lit≤ tt
end_most false = lit≤ tt

pub packet-below : (a : ℕ) (cs : List ℕ) (left : ℕ) → all_below 28 cs ≡ true → packet_of a cs left < 2 ^ 32
packet-below a cs left v =
    bool_cases (is_two_bit a cs)
    (λ e. omega (arith, packet_two a cs left e, two_below cs (two_plain a cs e).1, end_most (leb left 15)))
    (λ e. omega (arith, packet_five a cs left e, five_below cs v, end_most (leb left 6)))

-- ---- runs

pub later-drop : (a k : ℕ) (cs : List ℕ) → later a k cs ≡ later a 0 (drop k cs)
unfolding later
later-drop a zero cs = refl
later-drop a (suc k) [] = refl
later-drop a (suc k) (c ∷ cs) = later-drop a k cs

later-run : (a : ℕ) (cs : List ℕ) → 0 < length cs → later a 0 cs ≡ run a cs
unfolding later run
later-run a [] h = let z : ⊥ = omega arith in absurd z
later-run a (c ∷ cs) h =
    let e : size a (c ∷ cs) ≡ suc (pred (size a (c ∷ cs))) = omega (arith, size-some a (c ∷ cs) h) in
    ap (λ (l : List ℕ). packet a (c ∷ cs) ∷ l) (sym (ap (λ (n : ℕ). later a n (c ∷ cs)) e))

pub run-cons : (a : ℕ) (cs : List ℕ) → run a cs ≡ packet a cs ∷ later a (size a cs) cs
unfolding run
run-cons a cs = refl

pub run-last : (a : ℕ) (cs : List ℕ) → length cs ≤ size a cs → run a cs ≡ packet a cs ∷ []
unfolding run later
run-last a cs h = rw (later-drop, drop_of_length-le cs h)

pub run_more : (a : ℕ) (cs : List ℕ) → size a cs < length cs → run a cs ≡ packet a cs ∷ run a (drop (size a cs) cs)
unfolding run
run_more a cs h =
    ap (λ (l : List ℕ). packet a cs ∷ l) (later-drop a (size a cs) cs ∙ later-run a (drop (size a cs) cs) (simp length-drop (omega arith)))

pub run-some : (a : ℕ) (cs : List ℕ) → 0 < length (run a cs)
run-some a cs = rw run-cons (omega arith)

-- every alphabet has codes
pub limit_some : (a : ℕ) → 0 < code_limit a
limit_some a = bool_cases (is_amino a) (λ e. rw e (lit< tt)) (λ e. rw e (lit< tt))

-- what `search` and `grind` are handed to tell the next packet
pub ruleset next_packet = (two_plain, packet_two, packet_five, size_two, size_five)
