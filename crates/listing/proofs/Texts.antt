-- Texts put one after another, and the digits of a number. Assumes nothing.
use mathlib.Core.Path.{◌≡◌, refl, sym, ap, ◌∙◌}
use mathlib.Core.Bool.{cond}
use mathlib.Core.List.{List, [], ◌∷◌, ◌++◌, append_assoc}
use Prim.Native.Nat.{ℕ, zero, suc, ◌+◌, ◌/◌, ◌%◌, ◌^◌, ◌≤◌, ◌<◌}
use mathlib.Core.Logic.{⊎_elim}
use native.Mathlib.Nat.{eq-or-lt_of_le, le_of_suc-le-suc, not-suc-le-zero, div-lt_iff_lt-mul, mod-eq_of_lt, pow-suc}
use native.Mathlib.Numerals.{add-one}
use native.Mathlib.Omega.{arith}
use borrow.Author.Tests.{lt-ltb, le-ltb}
use lib.Dec.{ltb}
use lib.ListN.{length, take, drop, set, length-append}
use lib.Seq.{set_split, paste-zero}
use Rattle.laws.specs.Writing.{written_at}
use Rattle.laws.proofs.Writing.{written_twice, length_written, paste_whole}
use Rattle.volume.specs.declared.VolumeRecord.{VolumeRecord}
use Rattle.volume.specs.Tables.{length_of_number}
use Rattle.listing.specs.Listing.{space, line_feed, digit_of, last_digits, decimal, number_then, type_text}
use Rattle.listing.specs.Listing.{head_text, length_text, lengths_text, volume_text, listing_text, Put}

-- ---- texts

pub append_length : (xs ys : List ℕ) → length (xs ++ ys) ≡ length xs + length ys
append_length xs ys = length-append xs ys

-- nothing put yet
pub put_none : (old : List ℕ) (at : ℕ) → Put old at [] old at
put_none old at = record { holds = paste-zero old at [] ∙ paste_whole at [] old; place = omega arith }

-- a byte stored at a place
pub put_one : (old : List ℕ) (at b : ℕ) → at < length old → Put old at (b ∷ []) (set old at b) (at + 1)
put_one old at b h =
    record {
      holds = rw add-one (set_split old at b h ∙ sym (append_assoc (take at old) (b ∷ []) (drop (suc at) old)));
      place = refl;
    }

-- a text that has room leaves the range as long as it was
pub put_size : {old text new : List ℕ} {at next : ℕ} → Put old at text new next → at + length text ≤ length old → length new ≡ length old
put_size {old} {text} {new} {at} {next} p h = ap length p.holds ∙ length_written at text old h

-- a text behind a text
pub put_then : {old xs mid ys new : List ℕ} {at p next : ℕ} → at + length (xs ++ ys) ≤ length old → Put old at xs mid p → Put mid p ys new next
    → Put old at (xs ++ ys) new next
put_then {old} {xs} {mid} {ys} {new} {at} {p} {next} h a b =
    let l = length-append xs ys in
    record {
      holds = b.holds ∙ rw (a.place, a.holds) (written_twice at xs ys old (omega arith));
      place = omega (arith, a.place, b.place);
    }

-- ---- digits

pub digits_step : (k n : ℕ) → last_digits (suc k) n ≡ cond (ltb n 10) [] (last_digits k (n / 10)) ++ (digit_of (n % 10) ∷ [])
unfolding last_digits
digits_step k n = refl

-- more digits than a number has change nothing
enough : (k n : ℕ) → n < 10 ^ suc k → last_digits (suc (suc k)) n ≡ last_digits (suc k) n
enough zero n h = let l : n < 10 = h in rw (digits_step 1 n, digits_step 0 n, lt-ltb n 10 l)
enough (suc k) n h =
    let q : n / 10 < 10 ^ suc k = (div-lt_iff_lt-mul {k = 10} {x = n} {y = 10 ^ suc k} (omega arith)).1 (rw pow-suc at h) in
    rw (digits_step (suc (suc k)) n, digits_step (suc k) n, enough k (n / 10) q)

pub decimal-last : (n : ℕ) → n < 10 → decimal n ≡ digit_of n ∷ []
unfolding decimal
decimal-last n h = digits_step 19 n ∙ rw (lt-ltb n 10 h, mod-eq_of_lt h)

pub decimal-more : (n : ℕ) → 10 ≤ n → n < 18446744073709551616 → decimal n ≡ decimal (n / 10) ++ (digit_of (n % 10) ∷ [])
unfolding decimal
decimal-more n h k =
    let q : n / 10 < 10000000000000000000 = omega arith in
    digits_step 19 n ∙ rw (le-ltb n 10 h) (ap (λ (l : List ℕ). l ++ (digit_of (n % 10) ∷ [])) (sym (enough 18 (n / 10) q)))

-- ---- lines

-- the first line is as long as its parts
pub head_size : (v : VolumeRecord)
    → length (head_text v)
    ≡ length (type_text v.kind) +
    (length (number_then v.sequences space) + (length (number_then v.residues space) + length (number_then v.longest line_feed)))
unfolding head_text
head_size v = simp length-append

-- a listing is as long as its first line and the others
pub volume_size : (index sequence : List ℕ) (v : VolumeRecord)
    → length (volume_text index sequence v) ≡ length (head_text v) + length (lengths_text (length_of_number index sequence) v.sequences)
unfolding volume_text
volume_size index sequence v = length-append (head_text v) (lengths_text (length_of_number index sequence) v.sequences)

-- the lines of some sequences and of one more are no longer than those of all
pub lengths_grow : (f : ℕ → ℕ) (i n : ℕ) → i < n → length (lengths_text f i ++ length_text i (f i)) ≤ length (lengths_text f n)
lengths_grow f i zero h = absurd (not-suc-le-zero h)
lengths_grow f i (suc n) h =
    ⊎_elim (λ e. rw e (omega arith))
    (λ l. let k = lengths_grow f i n l in omega (arith, length-append (lengths_text f n) (length_text n (f n))))
    (eq-or-lt_of_le (le_of_suc-le-suc h))

-- ---- the call

-- the whole text, put at the start of the output
pub listing_put : (index sequence header : List ℕ) {old text new : List ℕ} {next : ℕ} → listing_text index sequence header ≡ text → Put old 0 text new next
    → (next ≡ length (listing_text index sequence header)) × (new ≡ written_at 0 (listing_text index sequence header) old)
listing_put index sequence header e p = (rw e (omega (arith, p.place)), rw e p.holds)
