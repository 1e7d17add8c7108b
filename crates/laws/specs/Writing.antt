-- What a lent range holds after a call has written into it.
-- Assumes nothing.
use Rattle.std.specs.Prelude.{◌≡◌, List, ◌++◌, ℕ, ◌+◌, length, take, drop}

-- The list `old` with the list `new` written over it from a place on.
abbrev pub written_at {ℓ} : {A : Type ℓ} → ℕ → List A → List A → List A
written_at place new old = take place old ++ new ++ drop (place + length new) old

-- `new` stands from a place on. Up to an end anything may stand behind it, and from there on all is as it was.
pub record Begun {ℓ} {A : Type ℓ} (place : ℕ) (new : List A) (end : ℕ) (before after : List A) : Type ℓ where
  pub size : length after ≡ length before
  pub front : take (place + length new) after ≡ take place before ++ new
  pub behind : drop end after ≡ drop end before
