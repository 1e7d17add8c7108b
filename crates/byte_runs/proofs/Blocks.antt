-- Packets taken apart into numbers, and the bytes of these written one packet behind another. Assumes nothing.
use mathlib.Core.Path.{◌≡◌, refl, sym, ap, ◌∙◌}
use mathlib.Core.Bool.{Bool, true, false, cond, ◌&&◌}
use mathlib.Core.List.{List, [], ◌∷◌, ◌++◌, append_assoc}
use Prim.Native.Nat.{ℕ, ◌+◌, ◌*◌, ◌-◌, ◌/◌, ◌%◌, ◌^◌, ◌≤◌, ◌<◌}
use native.Mathlib.Nat.{zero-add}
use native.Mathlib.Omega.{arith}
use borrow.Author.Tests.{eq-eqb, eqb-true, eqb-false}
use lib.Bits.{bit_and}
use lib.Dec.{eqb}
use lib.ListN.{length, take, drop, get_or, set, length-append}
use lib.Seq.{get_or-set_same, get_or-set_other, take-append_seam, take-length, get_or-take}
use Rattle.laws.specs.Digits.{digits}
use Rattle.laws.specs.Places.{every}
use Rattle.laws.specs.Writing.{written_at, Begun}
use Rattle.laws.proofs.Begun.{begun_written, begun_wider, begun_join}
use Rattle.laws.proofs.Digits.{length_digits, digits_split}
use Rattle.laws.proofs.Numbers.{digits_low}
use Rattle.laws.proofs.Places.{every_at}
use Rattle.laws.proofs.Tests.{bool_cases, both_pass}
use Rattle.fields.specs.Written.{little_bytes}
use Rattle.fields.proofs.Laws.{word_bytes}
use Rattle.residues.specs.Alphabets.{is_amino}
use Rattle.fields.specs.Number.{little}
use Rattle.packets.specs.Runs.{is_five_bit, codes_in, well_formed, unpacked}
use Rattle.packets.specs.Bytes.{packets_of, bytes_of}
use Rattle.packets.specs.Decoded.{codes_from}
use Rattle.packets.proofs.Codes.{codes_five, codes_two, codes-count, amino_codes}
use Rattle.packets.proofs.Bytes.{packets-from}
use Rattle.packets.proofs.Shapes.{well_inner}
use Rattle.packets.proofs.Behind.{codes-next, codes-append, codes_same, codes-each, codes-least, count_split}
use Rattle.byte_runs.specs.Blocks.{AllOf, Fronts, FrontOfFour, bytes_of_two, margin, spare}

-- ---- numbers as their bytes

two_little : (a b : ℕ) → a < 256 → b < 256 → little_bytes 2 (a + b * 256) ≡ a ∷ b ∷ []
two_little a b ha hb =
    let e₀ : (a + b * 256) % 256 ≡ a = omega arith in
    let q₁ : (a + b * 256) / 256 ≡ b = omega arith in
    let e₁ : b % 256 ≡ b = omega arith in
    rw (e₀, q₁, e₁)

-- the first four codes of a packet, and the last two
pub first_four : (p : ℕ)
    → little_bytes 4 (p / 33554432 % 32 + p / 1048576 % 32 * 256 + p / 32768 % 32 * 65536 + p / 1024 % 32 * 16777216) ≡ digits 5 4 (p / 1024)
unfolding digits
first_four p =
    let e₀ : p / 1024 / 32768 ≡ p / 33554432 = omega arith in
    let e₁ : p / 1024 / 1024 ≡ p / 1048576 = omega arith in
    let e₂ : p / 1024 / 32 ≡ p / 32768 = omega arith in
    let e₃ : p / 1024 / 1 ≡ p / 1024 = omega arith in
    word_bytes (p / 33554432 % 32) (p / 1048576 % 32) (p / 32768 % 32) (p / 1024 % 32) (omega arith) (omega arith) (omega arith) (omega arith)
    ∙ rw (e₀, e₁, e₂, e₃)

pub last_two : (p : ℕ) → little_bytes 2 (p / 32 % 32 + p % 32 * 256) ≡ digits 5 2 p
unfolding digits
last_two p =
    let e : p / 1 ≡ p = omega arith in
    two_little (p / 32 % 32) (p % 32) (omega arith) (omega arith) ∙ rw e

pub six_parts : (p four two : ℕ) → little_bytes 4 four ≡ digits 5 4 (p / 1024) → little_bytes 2 two ≡ digits 5 2 p → little_bytes 4 four ++ little_bytes 2 two ≡ digits 5 6 p
six_parts p four two e f = ap (λ (l : List ℕ). l ++ little_bytes 2 two) e ∙ (ap (λ (l : List ℕ). digits 5 4 (p / 1024) ++ l) f ∙ sym (digits_split 5 4 2 p))

-- ---- four 2-bit codes

-- two pairs are parted at once: every byte is tried
parted : ℕ → ℕ
parted b = let pairs = b / 16 + b % 16 * 65536 in bit_and (pairs / 4) 0x00030003 + bit_and pairs 0x00030003 * 256

is_parted : ℕ → Bool
is_parted b =
    let r = parted b in
    eqb (r % 256) (b / 64 % 4)
    && (eqb (r / 256 % 256) (b / 16 % 4) && (eqb (r / 256 / 256 % 256) (b / 4 % 4) && eqb (r / 256 / 256 / 256 % 256) (b / 1 % 4)))

all_parted : every is_parted 256 ≡ true
unfolding is_parted parted
all_parted = refl

pub four_bases : (b : ℕ) → b < 256
    → little_bytes 4 (bit_and ((b / 16 + b % 16 * 65536) / 4) 0x00030003 + bit_and (b / 16 + b % 16 * 65536) 0x00030003 * 256) ≡ digits 2 4 b
unfolding digits is_parted parted
four_bases b h =
    let p = both_pass _ _ (every_at is_parted 256 b h all_parted) in
    let q = both_pass _ _ p.1 in
    let r = both_pass _ _ q.1 in
    let n = bit_and ((b / 16 + b % 16 * 65536) / 4) 0x00030003 + bit_and (b / 16 + b % 16 * 65536) 0x00030003 * 256 in
    let e₀ : n % 256 ≡ b / 64 % 4 = eqb-true _ _ p.0 in
    let e₁ : n / 256 % 256 ≡ b / 16 % 4 = eqb-true _ _ q.0 in
    let e₂ : n / 256 / 256 % 256 ≡ b / 4 % 4 = eqb-true _ _ r.0 in
    let e₃ : n / 256 / 256 / 256 % 256 ≡ b / 1 % 4 = eqb-true _ _ r.1 in
    rw (e₀, e₁, e₂, e₃)

-- ---- the codes of a packet at the front of its numbers

bytes_four : (a b c d : ℕ) → bytes_of (a ∷ b ∷ c ∷ d ∷ []) ≡ little_bytes 4 a ++ (little_bytes 4 b ++ (little_bytes 4 c ++ little_bytes 4 d))
unfolding bytes_of
bytes_four a b c d = refl

-- four lists one behind another
joined : (K L M N A B C D : List ℕ) → K ≡ A → L ≡ B → M ≡ C → N ≡ D → K ++ (L ++ (M ++ N)) ≡ ((A ++ B) ++ C) ++ D
joined K L M N A B C D ka lb mc nd =
    rw (ka, lb, mc, nd) (sym (append_assoc A B (C ++ D)) ∙ sym (append_assoc (A ++ B) C D))

pub two_front : (p a b c d : ℕ) → little_bytes 4 a ≡ digits 2 4 (p / 4194304 % 256) → little_bytes 4 b ≡ digits 2 4 (p / 16384 % 256)
    → little_bytes 4 c ≡ digits 2 4 (p / 64 % 256) → little_bytes 4 d ≡ digits 2 4 (p % 64 * 4) → Fronts (digits 2 15 p) (bytes_of (a ∷ b ∷ c ∷ d ∷ []))
two_front p a b c d ea eb ec ed =
    let q : p / 16384 / 256 ≡ p / 4194304 = omega arith in
    let s : p / 64 / 256 ≡ p / 16384 = omega arith in
    let t : p % 64 * 4 / 4 ≡ p % 64 = omega arith in
    let A = digits 2 4 (p / 4194304) in
    let B = digits 2 4 (p / 16384) in
    let C = digits 2 4 (p / 64) in
    let D = digits 2 3 p in
    let z = digits 2 1 (p % 64 * 4) in
    let last : little_bytes 4 d ≡ D ++ z =
    ed ∙ digits_split 2 3 1 (p % 64 * 4) ∙ ap (λ (n : ℕ). digits 2 3 n ++ z) t ∙ ap (λ (l : List ℕ). l ++ z) (digits_low 2 3 p) in
    let eight : A ++ B ≡ digits 2 8 (p / 16384) = ap (λ (n : ℕ). digits 2 4 n ++ B) (sym q) ∙ sym (digits_split 2 4 4 (p / 16384)) in
    let twelve : (A ++ B) ++ C ≡ digits 2 12 (p / 64) =
    ap (λ (l : List ℕ). l ++ C) eight ∙ ap (λ (n : ℕ). digits 2 8 n ++ C) (sym s) ∙ sym (digits_split 2 8 4 (p / 64)) in
    let all : ((A ++ B) ++ C) ++ D ≡ digits 2 15 p = ap (λ (l : List ℕ). l ++ D) twelve ∙ sym (digits_split 2 12 3 p) in
    let whole : bytes_of (a ∷ b ∷ c ∷ d ∷ []) ≡ digits 2 15 p ++ z =
    bytes_four a b c d
    ∙ joined (little_bytes 4 a) (little_bytes 4 b) (little_bytes 4 c) (little_bytes 4 d) A B C (D ++ z) (ea ∙ digits_low 2 4 (p / 4194304))
    (eb ∙ digits_low 2 4 (p / 16384)) (ec ∙ digits_low 2 4 (p / 64)) last
    ∙ sym (append_assoc ((A ++ B) ++ C) D z)
    ∙ ap (λ (l : List ℕ). l ++ z) all in
    ap (take (length (digits 2 15 p))) whole ∙ take-append_seam (digits 2 15 p) z

six_front : (cs : List ℕ) (a b c d : ℕ) → little_bytes 4 a ++ little_bytes 2 b ≡ cs → Fronts cs (bytes_of (a ∷ b ∷ c ∷ d ∷ []))
six_front cs a b c d e =
    let z = little_bytes 2 (b / 256 / 256) ++ (little_bytes 4 c ++ little_bytes 4 d) in
    let whole : bytes_of (a ∷ b ∷ c ∷ d ∷ []) ≡ cs ++ z =
    bytes_four a b c d ∙ sym (append_assoc (little_bytes 4 a) (little_bytes 2 b) z) ∙ ap (λ (l : List ℕ). l ++ z) e in
    ap (take (length cs)) whole ∙ take-append_seam cs z

-- the four numbers of a list of four
four_are : (l : List ℕ) → length l ≡ 4 → get_or l 0 0 ∷ get_or l 1 0 ∷ get_or l 2 0 ∷ get_or l 3 0 ∷ [] ≡ l
four_are [] e = absurd (let z : ⊥ = omega arith in z)
four_are (a ∷ []) e = absurd (let z : ⊥ = omega arith in z)
four_are (a ∷ b ∷ []) e = absurd (let z : ⊥ = omega arith in z)
four_are (a ∷ b ∷ c ∷ []) e = absurd (let z : ⊥ = omega arith in z)
four_are (a ∷ b ∷ c ∷ d ∷ []) e = refl
four_are (a ∷ b ∷ c ∷ d ∷ f ∷ l) e = absurd (let z : ⊥ = omega arith in z)

-- a packet of either kind, of which the numbers of one way or the other were picked
pub any_front : (p : ℕ) (six fifteen : List ℕ) → bytes_of_two six ≡ digits 5 6 p → FrontOfFour (digits 2 15 p) fifteen
    → Fronts (codes_in p) (bytes_of (cond (is_five_bit p) (get_or six 0 0) (get_or fifteen 0 0) ∷ cond (is_five_bit p) (get_or six 1 0) (get_or fifteen 1 0)
    ∷ get_or fifteen 2 0 ∷ get_or fifteen 3 0 ∷ []))
any_front p six fifteen s f =
    bool_cases (is_five_bit p)
    (λ t. rw (codes_five p t, t) (six_front (digits 5 6 p) (get_or six 0 0) (get_or six 1 0) (get_or fifteen 2 0) (get_or fifteen 3 0) s))
    (λ t. rw (codes_two p t, t, four_are fifteen f.four) f.front)

-- ---- one packet more

-- two lists have the codes of the first n packets, four and two of each
abbrev pub InTwo : List ℕ → ℕ → List ℕ → List ℕ → Type 0
InTwo packets n fours twos = (j : ℕ) → j < n → bytes_of_two (get_or fours j 0 ∷ get_or twos j 0 ∷ []) ≡ codes_in (get_or packets j 0)

pub two_more : (ps : List ℕ) (n p : ℕ) → p ≡ get_or ps n 0 → (a b : ℕ) (ws xs : List ℕ) → InTwo ps n ws xs → n < length ws → n < length xs
    → bytes_of_two (a ∷ b ∷ []) ≡ codes_in p → InTwo ps (n + 1) (set ws n a) (set xs n b)
two_more ps n p l a b ws xs so_far hw hx here j h =
    bool_cases (eqb j n)
    (λ t. let q : j ≡ n = eqb-true j n t in rw (q, get_or-set_same ws n a 0 hw, get_or-set_same xs n b 0 hx, ← l) here)
    (λ t. let q = eqb-false j n t in rw (get_or-set_other ws n j a 0 q, get_or-set_other xs n j b 0 q) (so_far j (omega arith)))

-- the codes of the first packets, and of one more
pub first_next : (ps : List ℕ) (n : ℕ) → codes_from ps 0 (n + 1) ≡ codes_from ps 0 n ++ codes_in (get_or ps n 0)
first_next ps n = codes-next ps 0 n ∙ rw (zero-add n)

pub count_next : (ps : List ℕ) (n : ℕ) → length (codes_from ps 0 (n + 1)) ≡ length (codes_from ps 0 n) + length (codes_in (get_or ps n 0))
count_next ps n = ap length (first_next ps n) ∙ length-append (codes_from ps 0 n) (codes_in (get_or ps n 0))

-- n packets are written from `place` on, and the bytes zs of the next from `at` on
module _ (ps : List ℕ) (n place at end : ℕ) (d out zs : List ℕ) (so_far : Begun place (codes_from ps 0 n) end d out)
    (here : at ≡ place + length (codes_from ps 0 n))
    (f : Fronts (codes_in (get_or ps n 0)) zs) (low : at + length zs ≤ end) (high : end ≤ length d) where
  pub begun_more : Begun place (codes_from ps 0 (n + 1)) end d (written_at at zs out)
  begun_more =
      let p = codes_in (get_or ps n 0) in
      let b : Begun at p end out (written_at at zs out) = begun_written at end p zs out f low (omega (arith, so_far.size)) in
      rw (first_next ps n) (begun_join place end (codes_from ps 0 n) p d out (written_at at zs out) so_far (rw (← here) b))

-- the codes of the packets up to one are not more than those of all
pub codes-within : (ps : List ℕ) (j n : ℕ) → j < n → length (codes_from ps 0 j) + length (codes_in (get_or ps j 0)) ≤ length (codes_from ps 0 n)
codes-within ps j n h =
    let s : j + 1 + (n - (j + 1)) ≡ n = omega arith in
    let e : codes_from ps 0 n ≡ codes_from ps 0 (j + 1) ++ codes_from ps (0 + (j + 1)) (n - (j + 1)) = ap (codes_from ps 0) (sym s) ∙ codes-append ps 0
    (j + 1) (n - (j + 1)) in
    omega (arith, ap length e, length-append (codes_from ps 0 (j + 1)) (codes_from ps (0 + (j + 1)) (n - (j + 1))), count_next ps j)

-- how many codes packets of one kind have
pub fives-count : (ps : List ℕ) (m n : ℕ) → AllOf true ps m → n ≤ m → length (codes_from ps 0 n) ≡ 6 * n
fives-count ps m n h l =
    codes-each ps 6 0 n
    (λ k i. ap (λ (x : ℕ). length (codes_in (get_or ps x 0))) (zero-add k) ∙ ap length (codes_five (get_or ps k 0) (h k (omega arith)))
    ∙ length_digits 5 6 (get_or ps k 0))

pub twos-count : (ps : List ℕ) (m n : ℕ) → AllOf false ps m → n ≤ m → length (codes_from ps 0 n) ≡ 15 * n
twos-count ps m n h l =
    codes-each ps 15 0 n
    (λ k i. ap (λ (x : ℕ). length (codes_in (get_or ps x 0))) (zero-add k) ∙ ap length (codes_two (get_or ps k 0) (h k (omega arith)))
    ∙ length_digits 2 15 (get_or ps k 0))

pub front-is : (cs zs : List ℕ) → zs ≡ cs → Fronts cs zs
front-is cs zs e = ap (take (length cs)) e ∙ take-length cs

-- a packet with six codes has bit 30
pub six_codes : (p : ℕ) → length (codes_in p) ≡ 6 → is_five_bit p ≡ true
six_codes p e = eq-eqb (p / 2 ^ 30 % 2) 1 (omega (arith, codes-count p))

-- ---- a block of a run

-- the first sixteen packets, by themselves
module _ (ps qs : List ℕ) (e : qs ≡ take 16 ps) where
  taken : (k : ℕ) → k < 16 → get_or qs k 0 ≡ get_or ps k 0
  taken k h = ap (λ (l : List ℕ). get_or l k 0) e ∙ get_or-take 16 ps k 0 h

  pub taken_codes : codes_from qs 0 16 ≡ codes_from ps 0 16
  taken_codes = codes_same qs ps 0 0 16 (λ k h. rw (zero-add k) (taken k h))

  pub taken_all : (five : Bool) → AllOf five ps 16 → AllOf five qs 16
  taken_all five h k i = ap is_five_bit (taken k i) ∙ h k i

-- block i of the bytes
module _ (bytes : List ℕ) (i start : ℕ) (here : start ≡ 4 * (16 * i)) (room : 16 * i + 16 ≤ length bytes / 4) where
  block_at : (k : ℕ) → k < 16 → get_or (packets_of (drop start bytes)) k 0 ≡ get_or (packets_of bytes) (16 * i + k) 0
  block_at k h = rw here (packets-from little bytes (16 * i) k (omega arith))

  pub block_codes : codes_from (packets_of (drop start bytes)) 0 16 ≡ codes_from (packets_of bytes) (16 * i) 16
  block_codes = codes_same (packets_of (drop start bytes)) (packets_of bytes) 0 (16 * i) 16 (λ k h. rw (zero-add k) (block_at k h))

  -- of a well-formed amino run
  pub block_fives : well_formed 3 (packets_of bytes) ≡ true → 16 * i + 16 < length (packets_of bytes) → AllOf true (packets_of (drop start bytes)) 16
  block_fives e l k h =
      let p = get_or (packets_of bytes) (16 * i + k) 0 in
      rw (block_at k h) (six_codes p (ap length (amino_codes p (well_inner 3 (packets_of bytes) e (16 * i + k) (omega arith))) ∙ length_digits 5 6 p))

-- behind block i of a well-formed run there is room for what is written beyond it
module _ (a : ℕ) (ps : List ℕ) (e : well_formed a ps ≡ true) (i : ℕ) (l : 16 * i + 16 + spare a < length ps) where
  block_next : codes_from ps 0 (16 * (i + 1)) ≡ codes_from ps 0 (16 * i) ++ codes_from ps (16 * i) 16
  block_next =
      let s : 16 * (i + 1) ≡ 16 * i + 16 = omega arith in
      ap (codes_from ps 0) s ∙ codes-append ps 0 (16 * i) 16 ∙ ap (λ (k : ℕ). codes_from ps 0 (16 * i) ++ codes_from ps k 16) (zero-add (16 * i))

  pub block_count : length (codes_from ps 0 (16 * (i + 1))) ≡ length (codes_from ps 0 (16 * i)) + length (codes_from ps (16 * i) 16)
  block_count = ap length block_next ∙ length-append (codes_from ps 0 (16 * i)) (codes_from ps (16 * i) 16)

  pub block_room : length (codes_from ps 0 (16 * i)) + length (codes_from ps (16 * i) 16) + margin a ≤ length (unpacked ps)
  block_room =
      let s : 16 * i + 16 ≡ 16 * (i + 1) = omega arith in
      let n = 16 * (i + 1) in
      let m : margin a ≤ 6 * spare a = bool_cases (is_amino a) (λ t. rw t (omega arith)) (λ t. rw t (omega arith)) in
      let c = codes-append ps 0 n (spare a) in
      omega (
        arith,
        block_count,
        count_split a ps e 0 (n + spare a) (omega arith),
        ap length c,
        length-append (codes_from ps 0 n)
            (codes_from ps (0 + n) (spare a)),
        codes-least ps (0 + n) (spare a),
      )

  -- the codes of the block are written behind those before it
  pub block_begun : (end : ℕ) (d m o : List ℕ) → length (codes_from ps 0 (16 * i)) + length (codes_from ps (16 * i) 16) + margin a ≤ end
      → Begun 0 (codes_from ps 0 (16 * i)) end d m
      → Begun (length (codes_from ps 0 (16 * i))) (codes_from ps (16 * i) 16)
      (length (codes_from ps 0 (16 * i)) + length (codes_from ps (16 * i) 16) + margin a) m o
      → Begun 0 (codes_from ps 0 (16 * (i + 1))) end d o
  block_begun end d m o h so_far here =
      rw block_next
      (begun_join 0 end (codes_from ps 0 (16 * i)) (codes_from ps (16 * i) 16) d m o so_far
      (rw (zero-add (length (codes_from ps 0 (16 * i)))) (begun_wider _ _ end _ m o h here)))
