-- What the first bytes of a reader are, from what it gives under a limit.
use Rattle.std.proofs.Common.{◌≡◌, ℕ, List, [], ◌++◌, take, Option, Some, None, IfSome, subst, option_map}
use Rattle.std.proofs.Common.{ap, ◌∙◌, le_refl}
use Rattle.std.proofs.lemmas.List.{take-take}
use Rattle.std.specs.Io.Take.{take_remaining}
use Rattle.std.specs.declared.io.traits.Take.{Take}

pub taken : {R : Type 0} (remaining : R → Option (List ℕ)) (t : Take R) (file : R) (n : ℕ) (old all : List ℕ)
    → t.limit ≡ n → t.inner ≡ file → old ≡ []
    → IfSome (take_remaining remaining t) (λ xs. all ≡ old ++ xs)
    → IfSome (remaining file) (λ bytes. all ≡ take n bytes)
taken remaining t file n old all l i o h = from (remaining file) (subst (λ m. IfSome (option_map (take m) (remaining file)) (λ xs. all ≡ xs)) l (subst (λ f. IfSome (option_map (take t.limit) (remaining f)) (λ xs. all ≡ xs)) i (subst (λ e. IfSome (take_remaining remaining t) (λ xs. all ≡ e ++ xs)) o h)))
  where
    from : (given : Option (List ℕ)) → IfSome (option_map (take n) given) (λ xs. all ≡ xs) → IfSome given (λ bytes. all ≡ take n bytes)
    from None _ = tt
    from (Some bytes) e = e

-- cut once more at the limit, they are the same
pub taken_again : (given : Option (List ℕ)) (n : ℕ) (all cut : List ℕ) → cut ≡ take n all
    → IfSome given (λ bytes. all ≡ take n bytes)
    → IfSome given (λ bytes. cut ≡ take n bytes)
taken_again None n all cut c h = tt
taken_again (Some bytes) n all cut c h = c ∙ ap (take n) h ∙ take-take n n bytes (le_refl n)
