-- The names of the kinds of identifier: source 001's list, from local, A0, on.
-- Assumes nothing.
use Rattle.std.specs.Prelude.{Bool, ◌&&◌, List, [], ◌∷◌, ℕ, ◌-◌, length, get_or, leb, Result, Ok, Err}
use Prim.Native.Char.{code}
use Prim.Native.String.{String}
use Prim.Native.String as S
use Rattle.laws.specs.Rules.{Rule, ask, verdict}
use Rattle.laws.specs.Writing.{written_at}
use Rattle.answers.specs.Numbers.{number_of}
use Rattle.answers.specs.declared.Refusal.{Refusal}
use Rattle.answers.specs.declared.Refusal.TheVariants.{OutOfRange, NoRoom}

-- The bytes of a text.
abbrev pub codes : String → List ℕ
codes S.[] = []
codes (S.◌∷◌ c text) = code c ∷ codes text

-- The twenty names, in source 001's order.
abbrev pub names : List (List ℕ)
names =
    codes "local"
    ∷ codes "gibbsq"
    ∷ codes "gibbmt"
    ∷ codes "giim"
    ∷ codes "genbank"
    ∷ codes "embl"
    ∷ codes "pir"
    ∷ codes "swissprot"
    ∷ codes "patent"
    ∷ codes "other"
    ∷ codes "general"
    ∷ codes "gi"
    ∷ codes "ddbj"
    ∷ codes "prf"
    ∷ codes "pdb"
    ∷ codes "tpg"
    ∷ codes "tpe"
    ∷ codes "tpd"
    ∷ codes "gpipe"
    ∷ codes "named-annot-track"
    ∷ []

-- The name of a kind, by its tag.
abbrev pub kind_name : ℕ → List ℕ
kind_name kind = get_or names (kind - 160) []

-- The tags of the kinds: A0 to B3.
abbrev pub is_kind : ℕ → Bool
is_kind kind = leb 160 kind && leb kind 179

-- A name in an output: 13 where it has no room, else its length.
abbrev pub put_answer : List ℕ → List ℕ → Result ℕ Refusal
put_answer name output = verdict Err (Ok (length name)) (ask (leb (length name) (length output)) NoRoom ∷ [])

-- On success the name stands at the output's start, and the rest is unchanged; a refusal writes nowhere.
abbrev pub written_by : Result ℕ Refusal → List ℕ → List ℕ → List ℕ
written_by (Ok n) name output = written_at 0 name output
written_by (Err r) name output = output

-- The call's rules: 4 for a number that is no kind's, then 13.
abbrev pub name_rules : ℕ → List ℕ → List (Rule Refusal)
name_rules kind output = ask (is_kind kind) OutOfRange ∷ ask (leb (length (kind_name kind)) (length output)) NoRoom ∷ []

unfoldable pub name_answer : ℕ → List ℕ → Result ℕ Refusal
name_answer kind output = verdict Err (Ok (length (kind_name kind))) (name_rules kind output)

unfoldable pub name_output : ℕ → List ℕ → List ℕ
name_output kind output = written_by (name_answer kind output) (kind_name kind) output

-- Document 01's number of an answer, and its values.
abbrev pub name_number : Result ℕ Refusal → ℕ
name_number (Ok n) = 0
name_number (Err r) = number_of r

abbrev pub name_values : Result ℕ Refusal → List ℕ
name_values (Ok n) = n ∷ []
name_values (Err r) = []
