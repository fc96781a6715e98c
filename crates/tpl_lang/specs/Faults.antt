-- What is wrong with a statement where it stands: the kinds of faults in their order, one behind the other.
use Rattle.std.specs.Prelude.{ℕ, if◌then◌else◌, ◌+◌, ◌-◌, ◌%◌, ◌^◌, Bool, true, false, not, ◌&&◌, ◌||◌, ◌==◌, nat_lt, nat_le, List, [], ◌∷◌, ◌++◌, length, Option, Some, None, is_none}
use Rattle.std.specs.List.{list_any}
use Rattle.std.specs.Option.{unwrap_or}
use Rattle.std.specs.Str.{bytes_eq}
use Rattle.rv_csr.specs.declared.table.Register.{Register}
use Rattle.rv_csr.specs.declared.table.Register.TheVariants.{Sstatus, Mhartid}
use Rattle.rv_csr.specs.Table.{address_of, csr_key, is_legal_for}
use Rattle.tpl_lang.specs.declared.fault.Kind.{Kind}
use Rattle.tpl_lang.specs.declared.fault.Kind.TheVariants as kinds
use Rattle.tpl_lang.specs.declared.phrase.Numeral.{Numeral}
use Rattle.tpl_ast.specs.declared.template.Region.{Region}
use Rattle.tpl_ast.specs.declared.template.Var.{Var}
use Rattle.tpl_ast.specs.declared.template.Var.TheVariants as vars
use Rattle.tpl_lang.specs.Phrases.{SetPhrase, Named, Listed, Domain, Numbers, Words, Outcomes, AtomPhrase, Among, NotAmong, IsName, WishPhrase, Phrase, Ram, Pool, Tables, Flags, Vectors, Set, Name, Data, Hart, Start, Csr, Reg, Body, Do, Fault, Seq, Repeat, Choose, Way, Label, Close}
use Rattle.tpl_lang.specs.Sets.{number, find_set, resolved, fours}
use Rattle.tpl_lang.specs.Words.{csr_of, op_of}
use Rattle.tpl_ast.specs.Limits.{last_end, most_blocks, most_flags, most_harts, most_memory, most_names, most_pool, most_records, most_regions, most_sets, most_tables, most_ways, most_atoms, most_elements, most_times, most_weight}
use Rattle.std.specs.Int.{is_power_of_two}
use Rattle.rv_csr.specs.Causes.{is_cause}
use Rattle.tpl_lang.specs.declared.phrase.Element.{Element}
use Rattle.tpl_lang.specs.declared.phrase.Element.TheVariants.{One, Range}
use Rattle.tpl_lang.specs.declared.phrase.OutcomeElement.{OutcomeElement}
use Rattle.tpl_lang.specs.declared.phrase.OutcomeElement.TheVariants.{Retire, Cause}
use Rattle.tpl_ast.specs.Templates.{holds, is_number_among, size_of}
use Rattle.tpl_lang.specs.Known.{Block, Whole, Times, Choice, OpenedBlock, Place, Head, Begin, Settings, Inside, Ended, Known, name_among, is_declared}

-- Kind 1, a byte that is not allowed, is told by `is_bad_byte` of `Lines`, before a statement is read.

-- ---- kind 2: the statement may stand here

abbrev pub is_head : Place → Bool
is_head Head = true
is_head _ = false

abbrev pub is_begin : Place → Bool
is_begin Begin = true
is_begin _ = false

abbrev pub is_settings : Place → Bool
is_settings Settings = true
is_settings _ = false

abbrev pub is_inside : Place → Bool
is_inside Inside = true
is_inside _ = false

abbrev pub is_ended : Place → Bool
is_ended Ended = true
is_ended _ = false

-- before the first hart
abbrev pub is_first : Known → Bool
is_first k = is_head k.place && length k.harts == 0

abbrev pub is_choice : Block → Bool
is_choice Choice = true
is_choice _ = false

abbrev pub is_repeat : OpenedBlock → Bool
is_repeat o = elim (o.block) [
  | Times n ↦ true
  | _ ↦ false
]

abbrev pub is_in_choice : List OpenedBlock → Bool
is_in_choice [] = false
is_in_choice (o ∷ os) = is_choice o.block

abbrev pub takes_items : List OpenedBlock → Bool
takes_items [] = false
takes_items (o ∷ os) = not (is_choice o.block)

-- an item may stand here: inside a body, and not directly inside a choice
abbrev pub is_item_place : Known → Bool
is_item_place k = is_inside k.place && takes_items k.blocks

-- the innermost block can be closed: a choice needs an alternative, and a weight
abbrev pub is_closable : List OpenedBlock → Bool
is_closable [] = true
is_closable (o ∷ os) = not (is_choice o.block) || (nat_lt 0 o.ways && o.weighted)

-- sstatus and mhartid are never given
abbrev pub is_never_given : Option Register → Bool
is_never_given (Some Sstatus) = true
is_never_given (Some Mhartid) = true
is_never_given _ = false

abbrev pub allows : Known → Phrase → Bool
allows k (Ram lo hi) = is_first k
allows k (Pool fs) = is_first k
allows k (Tables fs) = is_first k
allows k (Flags bs) = is_first k
allows k (Vectors s) = is_first k && is_none k.vectors
allows k (Set name s) = is_first k
allows k (Name name s) = is_first k
allows k (Data a w) = is_first k
allows k (Hart n) = is_head k.place
allows k (Start pc p) = is_begin k.place
allows k (Csr name v) = is_settings k.place && not (is_never_given (csr_of name))
allows k (Reg n v) = is_settings k.place
allows k Body = is_settings k.place
allows k (Do ws) = is_item_place k
allows k (Fault os) = is_item_place k
allows k Seq = is_item_place k
allows k (Repeat n) = is_item_place k
allows k Choose = is_item_place k
allows k (Label name) = is_item_place k && not (list_any is_repeat k.blocks)
allows k (Way w) = is_inside k.place && is_in_choice k.blocks
allows k Close = (is_inside k.place && is_closable k.blocks) || is_ended k.place

-- no block is open, and there is a hart
abbrev pub is_finished : Known → Bool
is_finished k = is_head k.place && not (length k.harts == 0)

-- a text may end behind the statement
abbrev pub is_last : Known → Phrase → Bool
is_last k Close = is_ended k.place
is_last k _ = false

-- ---- kind 3

-- above 2 ^ 32 - 1
abbrev pub is_large : Numeral → Bool
is_large n = is_none n.value

-- above the limit of its place
abbrev pub is_above : ℕ → Numeral → Bool
is_above limit n = is_large n || nat_lt limit (number n)

abbrev pub is_element_above : ℕ → Element → Bool
is_element_above limit (One n) = is_above limit n
is_element_above limit (Range lo hi) = is_above limit lo || is_above limit hi

abbrev pub is_align_wrong : Option Numeral → Bool
is_align_wrong None = false
is_align_wrong (Some n) = is_large n || not (is_power_of_two (number n))

abbrev pub is_set_above : ℕ → SetPhrase → Bool
is_set_above limit (Named name) = false
is_set_above limit (Listed es align) = list_any (is_element_above limit) es || is_align_wrong align

-- numbers of registers end at 31
abbrev pub limit_of : Var → ℕ
limit_of vars.Rs1 = 31
limit_of vars.Rs2 = 31
limit_of vars.Rd = 31
limit_of _ = 2 ^ 32 - 1

abbrev pub is_no_cause : OutcomeElement → Bool
is_no_cause Retire = false
is_no_cause (Cause n) = is_large n || not (is_cause (number n))

-- a fetch fails with an access fault or a page fault
abbrev pub is_no_fetch_cause : OutcomeElement → Bool
is_no_fetch_cause Retire = false
is_no_fetch_cause (Cause n) = is_large n || not (number n == 1 || number n == 12)

abbrev pub is_domain_above : Var → Domain → Bool
is_domain_above v (Numbers s) = is_set_above (limit_of v) s
is_domain_above v (Words ws) = false
is_domain_above v (Outcomes os) = list_any is_no_cause os

abbrev pub is_atom_above : AtomPhrase → Bool
is_atom_above (Among v d) = is_domain_above v d
is_atom_above (NotAmong v d) = is_domain_above v d
is_atom_above _ = false

abbrev pub is_wish_above : WishPhrase → Bool
is_wish_above w = is_atom_above w.atom

-- the number of a register is 1 to 31
abbrev pub is_no_register : Option ℕ → Bool
is_no_register None = true
is_no_register (Some n) = n == 0 || nat_lt 31 n

abbrev pub is_phrase_above : Phrase → Bool
is_phrase_above (Ram lo hi) = is_large lo || is_large hi
is_phrase_above (Pool fs) = list_any is_large fs
is_phrase_above (Tables fs) = list_any is_large fs
is_phrase_above (Flags bs) = list_any (is_above 255) bs
is_phrase_above (Vectors s) = is_set_above (2 ^ 32 - 1) s
is_phrase_above (Set name s) = is_set_above (2 ^ 32 - 1) s
is_phrase_above (Name name s) = is_set_above (2 ^ 32 - 1) s
is_phrase_above (Data a w) = is_large a || is_large w
is_phrase_above (Hart k) = is_large k
is_phrase_above (Start pc p) = is_large pc
is_phrase_above (Csr name v) = is_large v
is_phrase_above (Reg n v) = is_no_register n || is_large v
is_phrase_above (Do ws) = list_any is_wish_above ws
is_phrase_above (Fault os) = list_any is_no_fetch_cause os
is_phrase_above (Repeat n) = is_above most_times n
is_phrase_above (Way w) = is_above most_weight w
is_phrase_above _ = false

-- ---- kind 4

abbrev pub is_set_unknown : Known → SetPhrase → Bool
is_set_unknown k (Named name) = is_none (find_set k.sets name)
is_set_unknown k (Listed es align) = false

abbrev pub is_word_unknown : Var → List ℕ → Bool
is_word_unknown vars.Op w = is_none (op_of w)
is_word_unknown _ w = is_none (csr_of w)

abbrev pub is_domain_unknown : Known → Var → Domain → Bool
is_domain_unknown k v (Numbers s) = is_set_unknown k s
is_domain_unknown k v (Words ws) = list_any (is_word_unknown v) ws
is_domain_unknown k v (Outcomes os) = false

abbrev pub is_atom_unknown : Known → AtomPhrase → Bool
is_atom_unknown k (Among v d) = is_domain_unknown k v d
is_atom_unknown k (NotAmong v d) = is_domain_unknown k v d
is_atom_unknown k (IsName v name) = not (name_among k.names name)
is_atom_unknown k _ = false

abbrev pub is_unknown : Known → Phrase → Bool
is_unknown k (Vectors s) = is_set_unknown k s
is_unknown k (Set name s) = is_set_unknown k s
is_unknown k (Name name s) = is_set_unknown k s
is_unknown k (Csr name v) = is_none (csr_of name)
is_unknown k (Do ws) = list_any (λ w. is_atom_unknown k w.atom) ws
is_unknown k _ = false

-- ---- kind 5

abbrev pub is_double : Known → Phrase → Bool
is_double k (Set name s) = is_declared k name
is_double k (Name name s) = is_declared k name
is_double k (Label name) = is_declared k name
is_double k _ = false

-- ---- kind 6

-- the names of `== NAME`
abbrev pub names_in : List WishPhrase → List (List ℕ)
names_in [] = []
names_in (w ∷ ws) = elim (w.atom) [
  | IsName v name ↦ name ∷ names_in ws
  | _ ↦ names_in ws
]

abbrev pub is_name_among : List (List ℕ) → List ℕ → Bool
is_name_among names name = list_any (λ n. bytes_eq n name) names

abbrev pub has_twice : List (List ℕ) → Bool
has_twice [] = false
has_twice (name ∷ names) = is_name_among names name || has_twice names

abbrev pub is_name_twice : Phrase → Bool
is_name_twice (Do ws) = has_twice (names_in ws)
is_name_twice _ = false

-- ---- kind 7

abbrev pub is_none_of : List ℕ → Bool
is_none_of ns = length ns == 0

abbrev pub is_domain_empty : Known → Domain → Bool
is_domain_empty k (Numbers s) = is_none_of (resolved k.sets s)
is_domain_empty k _ = false

abbrev pub is_atom_empty : Known → AtomPhrase → Bool
is_atom_empty k (Among v d) = is_domain_empty k d
is_atom_empty k (NotAmong v d) = is_domain_empty k d
is_atom_empty k _ = false

abbrev pub is_empty : Known → Phrase → Bool
is_empty k (Vectors s) = is_none_of (fours (resolved k.sets s))
is_empty k (Set name s) = is_none_of (resolved k.sets s)
is_empty k (Name name s) = is_none_of (resolved k.sets s)
is_empty k (Do ws) = list_any (λ w. is_atom_empty k w.atom) ws
is_empty k _ = false

-- ---- kind 8: sixteen blocks inside the body are open

abbrev pub opens : Phrase → Bool
opens Seq = true
opens (Repeat n) = true
opens Choose = true
opens (Way w) = true
opens _ = false

abbrev pub is_deep : Known → Phrase → Bool
is_deep k p = opens p && nat_lt most_blocks (length k.blocks)

-- ---- kind 9: the brace closes the body, and the length over all harts is above that of a test

abbrev pub body_length : List OpenedBlock → Option ℕ
body_length [] = None
body_length (o ∷ os) = elim (o.block) [
  | Whole ↦ Some (o.length)
  | _ ↦ None
]

abbrev pub is_length_above : Known → Option ℕ → Bool
is_length_above k None = false
is_length_above k (Some n) = nat_lt most_records (k.length + n)

abbrev pub is_long : Known → Phrase → Bool
is_long k Close = is_inside k.place && is_length_above k (body_length k.blocks)
is_long k _ = false

-- ---- kind 10: the counts of the statement's own lists, elements of a set and atoms, and those of the template

abbrev pub is_set_long : SetPhrase → Bool
is_set_long (Named name) = false
is_set_long (Listed es align) = nat_lt most_elements (length es)

abbrev pub is_domain_long : Domain → Bool
is_domain_long (Numbers s) = is_set_long s
is_domain_long (Words ws) = nat_lt most_elements (length ws)
is_domain_long (Outcomes os) = nat_lt most_elements (length os)

abbrev pub is_wish_long : WishPhrase → Bool
is_wish_long w = elim (w.atom) [
  | Among v d ↦ is_domain_long d
  | NotAmong v d ↦ is_domain_long d
  | _ ↦ false
]

abbrev pub is_phrase_long : Phrase → Bool
is_phrase_long (Vectors s) = is_set_long s
is_phrase_long (Set name s) = is_set_long s
is_phrase_long (Name name s) = is_set_long s
is_phrase_long (Do ws) = nat_lt most_atoms (length ws) || list_any is_wish_long ws
is_phrase_long (Fault os) = nat_lt most_elements (length os)
is_phrase_long _ = false

abbrev pub ways_in : List OpenedBlock → ℕ
ways_in [] = 0
ways_in (o ∷ os) = o.ways

abbrev pub passes_count : Known → Phrase → Bool
passes_count k (Ram lo hi) = nat_le most_regions (length k.ram)
passes_count k (Pool fs) = nat_lt most_pool (length k.pool + length fs)
passes_count k (Tables fs) = nat_lt most_tables (length k.tables + length fs)
passes_count k (Flags bs) = nat_lt most_flags (length k.flags + length bs)
passes_count k (Set name s) = nat_le most_sets (length k.sets)
passes_count k (Name name s) = nat_le most_names (length k.names)
passes_count k (Label name) = nat_le most_names (length k.names)
passes_count k (Hart n) = nat_le most_harts (length k.harts)
passes_count k (Way w) = nat_le most_ways (ways_in k.blocks)
passes_count k _ = false

-- ---- kind 11

abbrev pub overlaps : ℕ → ℕ → Region → Bool
overlaps lo hi r = nat_lt lo r.high && nat_lt r.low hi

-- empty, no whole frames, above the last frame, over another region, or beyond 64 MiB in all
abbrev pub is_bad_region : List Region → ℕ → ℕ → Bool
is_bad_region ram lo hi =
    nat_le hi lo
    || (not (lo % 4096 == 0)
    || (not (hi % 4096 == 0)
    || (nat_lt last_end hi
    || (list_any (overlaps lo hi) ram
    || nat_lt most_memory (size_of ram + (hi - lo))))))

abbrev pub is_bad_frame : List Region → List ℕ → ℕ → Bool
is_bad_frame ram others f = not (f % 4096 == 0) || (not (list_any (holds f 4096) ram) || is_number_among others f)

-- each frame is judged after those before it
abbrev pub are_bad_frames : List Region → List ℕ → List Numeral → Bool
are_bad_frames ram others [] = false
are_bad_frames ram others (f ∷ fs) = is_bad_frame ram others (number f) || are_bad_frames ram (number f ∷ others) fs

-- the flags of a pointer: V is 1, and R, W and X are 0
abbrev pub is_pointer_flag : Numeral → Bool
is_pointer_flag b = number b % 16 == 1

abbrev pub has_key : List (ℕ × ℕ) → ℕ → Bool
has_key es key = list_any (λ e. e.0 == key) es

abbrev pub is_bad_word : Known → ℕ → Bool
is_bad_word k a = not (a % 4 == 0) || (not (list_any (holds a 4) k.ram) || has_key k.words a)

abbrev pub is_bad_ram : Known → Phrase → Bool
is_bad_ram k (Ram lo hi) = is_bad_region k.ram (number lo) (number hi)
is_bad_ram k (Pool fs) = are_bad_frames k.ram (k.pool ++ k.tables) fs
is_bad_ram k (Tables fs) = are_bad_frames k.ram (k.pool ++ k.tables) fs
is_bad_ram k (Flags bs) = list_any is_pointer_flag bs
is_bad_ram k (Data a w) = is_bad_word k (number a)
is_bad_ram k _ = false

-- ---- kind 12

abbrev pub key_of_csr : Option Register → ℕ
key_of_csr None = 0
key_of_csr (Some r) = csr_key (address_of r)

abbrev pub is_bad_start : Known → Phrase → Bool
is_bad_start k (Hart n) = not (number n == length k.harts)
is_bad_start k (Start pc p) = not (number pc % 4 == 0)
is_bad_start k (Csr name v) = not (is_legal_for (csr_of name) (number v)) || has_key k.given (key_of_csr (csr_of name))
is_bad_start k (Reg n v) = has_key k.given (unwrap_or n 0)
is_bad_start k _ = false
