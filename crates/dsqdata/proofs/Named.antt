-- The rules of a set by name: for each group a record of its tests, made from the group's list and turned back into it. Who needs a
-- rule names it, so a rule more in a list is one name more here. Assumes nothing.
use mathlib.Core.Path.{◌≡◌}
use mathlib.Core.Bool.{true}
use mathlib.Core.List.{List, ◌∷◌, ◌++◌}
use Prim.Native.Nat.{ℕ, suc, ◌+◌, ◌*◌, ◌%◌}
use lib.Dec.{eqb, leb, ltb}
use lib.IntN.{pos, negsuc}
use lib.ListN.{length}
use lib.Signed.{lt_z, le_z}
use Rattle.laws.specs.Places.{every}
use Rattle.laws.specs.Rules.{ask, AllHold}
use Rattle.laws.proofs.Rules.{hold-append, hold-first, hold-second}
use Rattle.answers.specs.Limits.{bytes_fit}
use Rattle.answers.specs.declared.Refusal.TheVariants.{NoSuchSequence}
use Rattle.fields.specs.declared.Order.{Order}
use Rattle.residues.specs.Alphabets.{is_alphabet}
use Rattle.dsqdata.specs.declared.SetRecord.{SetRecord}
use Rattle.dsqdata.specs.Header.{set_magic, magic_of, tag_of, alphabet_of, flags_of, count_of, bytes_after_header}
use Rattle.dsqdata.specs.Ends.{metadata_table, packet_table, end_before, rises_at, meets_end}
use Rattle.dsqdata.specs.Check.{size_rules, start_rules, tag_rules, file_rules, header_rules, count_rules, body_rules, layout_rules, ends_rules}
use Rattle.dsqdata.specs.Check.{metadata_ends_rules, stated_rules, rest_rules, other_rules}
use Rattle.dsqdata.specs.Lookup.{part_rules, lookup_rules}

-- ---- the files

module _ (index metadata sequence : List ℕ) where
  pub record SizeTests : Type 0 where
    pub index_fits : bytes_fit index ≡ true
    pub metadata_fits : bytes_fit metadata ≡ true
    pub sequence_fits : bytes_fit sequence ≡ true

  pub size_tests : AllHold (size_rules index metadata sequence) → SizeTests
  unfolding size_rules
  size_tests (index_fits, (metadata_fits, (sequence_fits, _))) =
      record { index_fits = index_fits; metadata_fits = metadata_fits; sequence_fits = sequence_fits }

  pub size_tests_back : SizeTests → AllHold (size_rules index metadata sequence)
  unfolding size_rules
  size_tests_back t = (t.index_fits, (t.metadata_fits, (t.sequence_fits, tt)))

module _ (order : Order) where
  module _ (least : ℕ) (file : List ℕ) where
    pub record StartTests : Type 0 where
      pub long : leb least (length file) ≡ true
      pub magic : eqb (magic_of order file) set_magic ≡ true

    pub start_tests : AllHold (start_rules order least file) → StartTests
    unfolding start_rules
    start_tests (long, (magic, _)) =
        record { long = long; magic = magic }

    pub start_tests_back : StartTests → AllHold (start_rules order least file)
    unfolding start_rules
    start_tests_back t = (t.long, (t.magic, tt))

  module _ (index metadata sequence : List ℕ) where
    pub record TagTests : Type 0 where
      pub metadata_tag : eqb (tag_of order metadata) (tag_of order index) ≡ true
      pub sequence_tag : eqb (tag_of order sequence) (tag_of order index) ≡ true

    pub tag_tests : AllHold (tag_rules order index metadata sequence) → TagTests
    unfolding tag_rules
    tag_tests (metadata_tag, (sequence_tag, _)) =
        record { metadata_tag = metadata_tag; sequence_tag = sequence_tag }

    pub tag_tests_back : TagTests → AllHold (tag_rules order index metadata sequence)
    unfolding tag_rules
    tag_tests_back t = (t.metadata_tag, (t.sequence_tag, tt))

    -- all of them
    pub record FileTests : Type 0 where
      pub sizes : SizeTests index metadata sequence
      pub index_start : StartTests 52 index
      pub metadata_start : StartTests 8 metadata
      pub sequence_start : StartTests 8 sequence
      pub tags : TagTests

    pub file_tests : AllHold (file_rules order index metadata sequence) → FileTests
    unfolding file_rules
    file_tests h =
        let sizes = size_rules index metadata sequence in
        let tags = tag_rules order index metadata sequence in
        let a = hold-second sizes (start_rules order 52 index ++ (start_rules order 8 metadata ++ (start_rules order 8 sequence ++ tags))) h in
        let b = hold-second (start_rules order 52 index) (start_rules order 8 metadata ++ (start_rules order 8 sequence ++ tags)) a in
        let c = hold-second (start_rules order 8 metadata) (start_rules order 8 sequence ++ tags) b in
        record {
          sizes = size_tests index metadata sequence (hold-first sizes (start_rules order 52 index ++ (start_rules order 8 metadata ++ (start_rules order 8 sequence ++ tags))) h);
          index_start = start_tests 52 index (hold-first (start_rules order 52 index) (start_rules order 8 metadata ++ (start_rules order 8 sequence ++ tags)) a);
          metadata_start = start_tests 8 metadata (hold-first (start_rules order 8 metadata) (start_rules order 8 sequence ++ tags) b);
          sequence_start = start_tests 8 sequence (hold-first (start_rules order 8 sequence) tags c);
          tags = tag_tests (hold-second (start_rules order 8 sequence) tags c);
        }

    pub file_tests_back : FileTests → AllHold (file_rules order index metadata sequence)
    unfolding file_rules
    file_tests_back t =
        let sizes = size_rules index metadata sequence in
        let tags = tag_rules order index metadata sequence in
        hold-append sizes (start_rules order 52 index ++ (start_rules order 8 metadata ++ (start_rules order 8 sequence ++ tags))) (size_tests_back index metadata sequence t.sizes)
        (hold-append (start_rules order 52 index) (start_rules order 8 metadata ++ (start_rules order 8 sequence ++ tags)) (start_tests_back 52 index t.index_start)
        (hold-append (start_rules order 8 metadata) (start_rules order 8 sequence ++ tags) (start_tests_back 8 metadata t.metadata_start)
        (hold-append (start_rules order 8 sequence) tags (start_tests_back 8 sequence t.sequence_start) (tag_tests_back t.tags))))

  -- ---- the header fields and the lengths that they state

  module _ (index : List ℕ) where
    pub record HeaderTests : Type 0 where
      pub alphabet : is_alphabet (alphabet_of order index) ≡ true
      pub flags : eqb (flags_of order index) 0 ≡ true

    pub header_tests : AllHold (header_rules order index) → HeaderTests
    unfolding header_rules
    header_tests (alphabet, (flags, _)) =
        record { alphabet = alphabet; flags = flags }

    pub header_tests_back : HeaderTests → AllHold (header_rules order index)
    unfolding header_rules
    header_tests_back t = (t.alphabet, (t.flags, tt))

module _ (count : ℕ) (index : List ℕ) where
  pub record CountTests : Type 0 where
    pub few : leb count 134217728 ≡ true
    pub ends_there : leb (52 + 16 * count) (length index) ≡ true
    pub nothing_after : leb (length index) (52 + 16 * count) ≡ true

  pub count_tests : AllHold (count_rules count index) → CountTests
  unfolding count_rules
  count_tests (few, (ends_there, (nothing_after, _))) =
      record { few = few; ends_there = ends_there; nothing_after = nothing_after }

  pub count_tests_back : CountTests → AllHold (count_rules count index)
  unfolding count_rules
  count_tests_back t = (t.few, (t.ends_there, (t.nothing_after, tt)))

module _ (sequence : List ℕ) where
  pub record BodyTests : Type 0 where
    pub whole : eqb (bytes_after_header sequence % 4) 0 ≡ true

  pub body_tests : AllHold (body_rules sequence) → BodyTests
  unfolding body_rules
  body_tests (whole, _) = record { whole = whole }

  pub body_tests_back : BodyTests → AllHold (body_rules sequence)
  unfolding body_rules
  body_tests_back t = (t.whole, tt)

module _ (order : Order) where
  -- all of them
  module _ (index sequence : List ℕ) where
    pub record LayoutTests : Type 0 where
      pub header : HeaderTests order index
      pub counts : CountTests (count_of order index) index
      pub body : BodyTests sequence

    pub layout_tests : AllHold (layout_rules order index sequence) → LayoutTests
    unfolding layout_rules
    layout_tests h =
        let counts = count_rules (count_of order index) index in
        let a = hold-second (header_rules order index) (counts ++ body_rules sequence) h in
        record {
          header = header_tests order index (hold-first (header_rules order index) (counts ++ body_rules sequence) h);
          counts = count_tests (count_of order index) index (hold-first counts (body_rules sequence) a);
          body = body_tests sequence (hold-second counts (body_rules sequence) a);
        }

    pub layout_tests_back : LayoutTests → AllHold (layout_rules order index sequence)
    unfolding layout_rules
    layout_tests_back t =
        let counts = count_rules (count_of order index) index in
        hold-append (header_rules order index) (counts ++ body_rules sequence) (header_tests_back order index t.header)
        (hold-append counts (body_rules sequence) (count_tests_back (count_of order index) index t.counts) (body_tests_back sequence t.body))

  -- ---- the ends and the totals

  module _ (index : List ℕ) (table n size : ℕ) where
    pub record EndsTests : Type 0 where
      pub rises : every (rises_at order index table) n ≡ true
      pub meets : meets_end order index table n size ≡ true

    pub ends_tests : AllHold (ends_rules order index table n size) → EndsTests
    unfolding ends_rules
    ends_tests (rises, (meets, _)) =
        record { rises = rises; meets = meets }

    pub ends_tests_back : EndsTests → AllHold (ends_rules order index table n size)
    unfolding ends_rules
    ends_tests_back t = (t.rises, (t.meets, tt))

module _ (set : SetRecord) (residues sequence name accession description : ℕ) where
  pub record StatedTests : Type 0 where
    pub total : eqb residues set.residues ≡ true
    pub longest_sequence : eqb sequence set.longest_sequence ≡ true
    pub longest_name : eqb name set.longest_name ≡ true
    pub longest_accession : eqb accession set.longest_accession ≡ true
    pub longest_description : eqb description set.longest_description ≡ true

  pub stated_tests : AllHold (stated_rules set residues sequence name accession description) → StatedTests
  unfolding stated_rules
  stated_tests (total, (longest_sequence, (longest_name, (longest_accession, (longest_description, _))))) =
      record {
        total = total;
        longest_sequence = longest_sequence;
        longest_name = longest_name;
        longest_accession = longest_accession;
        longest_description = longest_description;
      }

  pub stated_tests_back : StatedTests → AllHold (stated_rules set residues sequence name accession description)
  unfolding stated_rules
  stated_tests_back t = (t.total, (t.longest_sequence, (t.longest_name, (t.longest_accession, (t.longest_description, tt)))))

-- ---- the other rules

module _ (order : Order) where
  -- The groups of the other rules; the metadata records and the totals are still one list.
  module _ (index metadata sequence : List ℕ) where
    pub record OtherParts : Type 0 where
      pub files : AllHold (file_rules order index metadata sequence)
      pub layout : AllHold (layout_rules order index sequence)
      pub metadata_ends : AllHold (metadata_ends_rules order index metadata)
      pub rest : AllHold (rest_rules order index metadata sequence)

    pub other_parts : AllHold (other_rules order index metadata sequence) → OtherParts
    unfolding other_rules
    other_parts h =
        let files = file_rules order index metadata sequence in
        let ends = metadata_ends_rules order index metadata in
        let rest = rest_rules order index metadata sequence in
        let a = hold-second files (layout_rules order index sequence ++ (ends ++ rest)) h in
        let b = hold-second (layout_rules order index sequence) (ends ++ rest) a in
        record {
          files = hold-first files (layout_rules order index sequence ++ (ends ++ rest)) h;
          layout = hold-first (layout_rules order index sequence) (ends ++ rest) a;
          metadata_ends = hold-first ends rest b;
          rest = hold-second ends rest b;
        }

    pub other_parts_back : OtherParts → AllHold (other_rules order index metadata sequence)
    unfolding other_rules
    other_parts_back t =
        let files = file_rules order index metadata sequence in
        let ends = metadata_ends_rules order index metadata in
        let rest = rest_rules order index metadata sequence in
        hold-append files (layout_rules order index sequence ++ (ends ++ rest)) t.files
        (hold-append (layout_rules order index sequence) (ends ++ rest) t.layout
        (hold-append ends rest t.metadata_ends t.rest))

  -- ---- the lookup

  module _ (index : List ℕ) (table k : ℕ) where
    pub record PartTests : Type 0 where
      pub low : le_z (negsuc 0) (end_before order index table k) ≡ true
      pub rises : lt_z (end_before order index table k) (end_before order index table (suc k)) ≡ true
      pub high : le_z (end_before order index table (suc k)) (pos 2147483646) ≡ true

    pub part_tests : AllHold (part_rules order index table k) → PartTests
    unfolding part_rules
    part_tests (low, (rises, (high, _))) =
        record { low = low; rises = rises; high = high }

    pub part_tests_back : PartTests → AllHold (part_rules order index table k)
    unfolding part_rules
    part_tests_back t = (t.low, (t.rises, (t.high, tt)))

module _ (set : SetRecord) (index : List ℕ) (number : ℕ) where
  pub record LookupTests : Type 0 where
    pub fits : bytes_fit index ≡ true
    pub counts : CountTests set.count index
    pub known : ltb number set.count ≡ true
    pub metadata_part : PartTests set.order index metadata_table number
    pub run_part : PartTests set.order index packet_table number

  pub lookup_tests : AllHold (lookup_rules set index number) → LookupTests
  unfolding lookup_rules
  lookup_tests (fits, h) =
      let parts = part_rules set.order index metadata_table number ++ part_rules set.order index packet_table number in
      let (known, p) = hold-second (count_rules set.count index) (ask (ltb number set.count) NoSuchSequence ∷ parts) h in
      record {
        fits = fits;
        counts = count_tests set.count index
            (hold-first (count_rules set.count index) (ask (ltb number set.count) NoSuchSequence ∷ parts) h);
        known = known;
        metadata_part = part_tests set.order index metadata_table number (hold-first (part_rules set.order index metadata_table number) (part_rules set.order index packet_table number) p);
        run_part = part_tests set.order index packet_table number (hold-second (part_rules set.order index metadata_table number) (part_rules set.order index packet_table number) p);
      }

  pub lookup_tests_back : LookupTests → AllHold (lookup_rules set index number)
  unfolding lookup_rules
  lookup_tests_back t =
      let parts = part_rules set.order index metadata_table number ++ part_rules set.order index packet_table number in (
        t.fits,
        hold-append (count_rules set.count index) (ask (ltb number set.count) NoSuchSequence ∷ parts)
            (count_tests_back set.count index t.counts) (
              t.known,
              hold-append (part_rules set.order index metadata_table number) (part_rules set.order index packet_table number)
                  (part_tests_back set.order index metadata_table number t.metadata_part) (part_tests_back set.order index packet_table number t.run_part),
            ),
      )
