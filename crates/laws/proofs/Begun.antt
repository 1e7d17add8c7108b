-- Lists written in part, with more behind them that is written again later. Assumes nothing.
use mathlib.Core.Path.{◌≡◌, refl, sym, ap, ◌∙◌}
use mathlib.Core.List.{List, [], ◌++◌, append_assoc, append-nil}
use Prim.Native.Nat.{ℕ, ◌+◌, ◌≤◌}
use native.Mathlib.Nat.{add_assoc, add-zero}
use native.Mathlib.Omega.{arith}
use lib.ListN.{length, take, drop, length-append, length-take, take-append-drop}
use lib.Seq.{length-take-le, take_at, drop_at, take-add, take-append-le}
use Rattle.laws.specs.Writing.{written_at, Begun}
use Rattle.laws.proofs.Writing.{length_written, drop-later}

module _ {ℓ} {A : Type ℓ} where
  -- nothing is written yet
  pub begun-none : (place end : ℕ) (d : List A) → Begun place [] end d d
  begun-none place end d = record {
    size = refl;
    front = rw (add-zero place) (sym (append-nil (take place d)));
    behind = refl;
  }

  -- what is written may be the front of more, where this ends before the end
  pub begun_written : (place end : ℕ) (ys zs d : List A) → take (length ys) zs ≡ ys → place + length zs ≤ end → place + length zs ≤ length d
      → Begun place ys end d (written_at place zs d)
  begun_written place end ys zs d e h r =
      let t : length (take place d) ≡ place = length-take-le place d (omega arith) in
      let n : length ys ≤ length zs = omega (arith, ap length e, length-take (length ys) zs) in
      let w : written_at place zs d ≡ take place d ++ (zs ++ drop (place + length zs) d) = append_assoc (take place d) zs (drop (place + length zs) d) in
      let f : length (take place d ++ zs) ≡ place + length zs = length-append (take place d) zs ∙ omega arith in
      record {
        size = length_written place zs d r;
        front = ap (take (place + length ys)) w
            ∙ take-add place (length ys) (take place d ++ (zs ++ drop (place + length zs) d))
            ∙ ap (λ (l : List A). l ++ take (length ys) (drop place (take place d ++ (zs ++ drop (place + length zs) d)))) (take_at (take place d) _ place t)
            ∙ ap (λ (l : List A). take place d ++ take (length ys) l) (drop_at (take place d) (zs ++ drop (place + length zs) d) place t)
            ∙ ap (λ (l : List A). take place d ++ l) (take-append-le (length ys) zs (drop (place + length zs) d) n ∙ e);
        behind = drop-later (place + length zs) end (written_at place zs d) d h
            (drop_at (take place d ++ zs) (drop (place + length zs) d) (place + length zs) f);
      }

  -- the end may lie further on
  pub begun_wider : (place end more : ℕ) (xs d o : List A) → end ≤ more → Begun place xs end d o → Begun place xs more d o
  begun_wider place end more xs d o h b = record { size = b.size; front = b.front; behind = drop-later end more o d h b.behind }

  -- one list behind another
  pub begun_join : (place end : ℕ) (xs ys d m o : List A) → Begun place xs end d m → Begun (place + length xs) ys end m o → Begun place (xs ++ ys) end d o
  begun_join place end xs ys d m o b c = record {
    size = c.size ∙ b.size;
    front = ap (λ (n : ℕ). take (place + n) o) (length-append xs ys)
        ∙ ap (λ (n : ℕ). take n o) (sym (add_assoc place (length xs) (length ys)))
        ∙ c.front
        ∙ ap (λ (l : List A). l ++ ys) b.front
        ∙ append_assoc (take place d) xs ys;
    behind = c.behind ∙ b.behind;
  }

  -- a list that reaches its end is written
  pub begun-whole : (place end : ℕ) (xs d o : List A) → place + length xs ≡ end → Begun place xs end d o → o ≡ written_at place xs d
  begun-whole place end xs d o e b =
      sym (take-append-drop (place + length xs) o)
      ∙ ap (λ (l : List A). l ++ drop (place + length xs) o) b.front
      ∙ ap (λ (l : List A). (take place d ++ xs) ++ l) (ap (λ (k : ℕ). drop k o) e ∙ b.behind ∙ ap (λ (k : ℕ). drop k d) (sym e))
