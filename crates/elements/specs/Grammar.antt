-- The shape of a header record (source 001) as a table of forms. A form says what an element at its place may be: how it may begin, what the elements
-- inside it are, which element may follow another, and where the last may stand. `Any` asks for nothing but the nesting.
-- Assumes nothing.
use Rattle.std.specs.Prelude.{ℕ, Bool, true, cond, ◌&&◌, ◌||◌, leb, eqb}
use Rattle.elements.specs.declared.RecordKind.{RecordKind}
use Rattle.elements.specs.declared.RecordKind.TheVariants.{DefLine, GiimportId, TextseqId, PatentSeqId, IdPat, Dbtag, PdbSeqId, DateStd}
use Rattle.elements.specs.declared.Form.{Form}
use Rattle.elements.specs.declared.Form.TheVariants.{Any, Integer, Text, Integers, DefLines, Identifiers, Record, Field}
use Rattle.elements.specs.declared.Form.TheVariants.{Identifier, ObjectId, PatentNumber, Date}

-- A byte from low to high.
abbrev pub in_range : ℕ → ℕ → ℕ → Bool
in_range low high b = leb low b && leb b high

-- The one form at a tag, another at every other.
abbrev pub at_tag : ℕ → ℕ → Form → Form → Form
at_tag tag b there elsewhere = cond (eqb b tag) there elsewhere

-- The tag of a record's last field; the first has A0.
abbrev pub last_tag : RecordKind → ℕ
last_tag DefLine = 165
last_tag GiimportId = 162
last_tag TextseqId = 163
last_tag PatentSeqId = 161
last_tag IdPat = 162
last_tag Dbtag = 161
last_tag PdbSeqId = 162
last_tag DateStd = 166

-- The tag from which on a record's fields are optional. Those before it are required: in source 001 the required fields come first.
abbrev pub optional_from : RecordKind → ℕ
optional_from DefLine = 160
optional_from GiimportId = 161
optional_from TextseqId = 160
optional_from PatentSeqId = 162
optional_from IdPat = 162
optional_from Dbtag = 162
optional_from PdbSeqId = 161
optional_from DateStd = 161

-- The first byte of an element of a form: 02 begins an integer, 1A a text, 30 a list or a record; fields are tagged from A0 on, the kinds of
-- identifier A0 to B3, the two sides of another choice A0 and A1.
abbrev pub may_begin : Form → ℕ → Bool
may_begin Any b = true
may_begin Integer b = eqb b 2
may_begin Text b = eqb b 26
may_begin Integers b = eqb b 48
may_begin DefLines b = eqb b 48
may_begin Identifiers b = eqb b 48
may_begin (Record kind) b = eqb b 48
may_begin (Field kind) b = in_range 160 (last_tag kind) b
may_begin Identifier b = in_range 160 179 b
may_begin ObjectId b = in_range 160 161 b
may_begin PatentNumber b = in_range 160 161 b
may_begin Date b = in_range 160 161 b

-- A record's field, by its tag.
abbrev pub field_body : RecordKind → ℕ → Form
field_body DefLine b = at_tag 160 b Text (at_tag 161 b Identifiers (at_tag 162 b Integer Integers))
field_body GiimportId b = at_tag 160 b Integer Text
field_body TextseqId b = at_tag 163 b Integer Text
field_body PatentSeqId b = at_tag 160 b Integer (Record IdPat)
field_body IdPat b = at_tag 161 b PatentNumber Text
field_body Dbtag b = at_tag 160 b Text ObjectId
field_body PdbSeqId b = at_tag 160 b Text (at_tag 161 b Integer Date)
field_body DateStd b = at_tag 163 b Text Integer

-- An identifier's body, by its tag: local is an object-id; gibbsq, gibbmt and gi are integers; giim, patent, general and pdb have records of their
-- own; the other twelve are text ids.
abbrev pub identifier_body : ℕ → Form
identifier_body b =
    at_tag 160 b ObjectId
    (at_tag 161 b Integer
    (at_tag 162 b Integer
    (at_tag 163 b (Record GiimportId)
    (at_tag 168 b (Record PatentSeqId)
    (at_tag 170 b (Record Dbtag)
    (at_tag 171 b Integer
    (at_tag 174 b (Record PdbSeqId) (Record TextseqId))))))))

-- The form of each element inside one whose first byte is b.
abbrev pub inside : Form → ℕ → Form
inside Any b = Any
inside Integer b = Any
inside Text b = Any
inside Integers b = Integer
inside DefLines b = Record DefLine
inside Identifiers b = Identifier
inside (Record kind) b = Field kind
inside (Field kind) b = field_body kind b
inside Identifier b = identifier_body b
inside ObjectId b = at_tag 160 b Integer Text
inside PatentNumber b = Text
inside Date b = at_tag 160 b Text (Record DateStd)

-- Whether an element that begins with b may stand in a list of a form where every first byte below `low` is past: the fields of a record rise, so
-- none repeats, and a required field is not passed over.
abbrev pub may_follow : Form → ℕ → ℕ → Bool
may_follow Any low b = true
may_follow Integer low b = true
may_follow Text low b = true
may_follow Integers low b = true
may_follow DefLines low b = true
may_follow Identifiers low b = true
may_follow (Record kind) low b = leb low b && (leb (optional_from kind) low || eqb b low)
may_follow (Field kind) low b = true
may_follow Identifier low b = true
may_follow ObjectId low b = true
may_follow PatentNumber low b = true
may_follow Date low b = true

-- Whether a list of a form may close where every first byte below `low` is past: a record's required fields are.
abbrev pub may_close : Form → ℕ → Bool
may_close Any low = true
may_close Integer low = true
may_close Text low = true
may_close Integers low = true
may_close DefLines low = true
may_close Identifiers low = true
may_close (Record kind) low = leb (optional_from kind) low
may_close (Field kind) low = true
may_close Identifier low = true
may_close ObjectId low = true
may_close PatentNumber low = true
may_close Date low = true
