use Rattle.std.proofs.Common.{ℕ, List, Option, OnOk, false, Some, [], ◌∷◌, subst, option_map, ◌^◌, ◌-◌}
use Rattle.std.specs.Fmt.{AppendsText, ◌++?◌, styled_digits_output, padded_integral, format_spec}
use Rattle.std.proofs.lemmas.Fmt.{hex_byte}
use Rattle.list.proofs.message.put_shown.Goals as goal

pub returns-else-is_plain : goal.returns-else-is_plain
returns-else-is_plain c =
    let writes : Option (List ℕ) → Type 0 = λ o. OnOk c.write.result (AppendsText c.args.shown.now.bytes.items c.write.new.self.bytes.items (Some (92 ∷ 120 ∷ []) ++? o)) in
    let laid = subst (λ s. writes (styled_digits_output c.in_radix.result s)) c.laid_out.ensures c.write.ensures.bytes in
    let shown = subst (λ digits. writes (option_map (padded_integral (format_spec 32 0 4 2 (2 ^ 64 - 1)) false []) digits)) c.in_radix.ensures laid in
    rw (← c.if-is_plain.ensures) (subst (λ text. writes (Some text)) (hex_byte false c.args.b c.ranges.b.fits) shown)
