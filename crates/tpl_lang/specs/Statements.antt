-- What is known behind a statement that has no fault where it stands.
use Rattle.std.specs.Prelude.{ℕ, if◌then◌else◌, ◌+◌, ◌-◌, ◌*◌, ◌^◌, Bool, true, false, ◌||◌, ◌==◌, nat_lt, max, List, [], ◌∷◌, ◌++◌, map, length, Some}
use Rattle.std.specs.Option.{unwrap_or}
use Rattle.tpl_lang.specs.declared.phrase.Numeral.{Numeral}
use Rattle.tpl_ast.specs.declared.template.Atom.{Atom}
use Rattle.tpl_ast.specs.declared.template.Atom.TheVariants as atoms
use Rattle.tpl_ast.specs.declared.template.HartState.{HartState}
use Rattle.tpl_ast.specs.declared.template.Wish.{Wish}
use Rattle.tpl_lang.specs.Phrases.{AtomPhrase, Among, NotAmong, IsName, Same, Differ, Taken, NotTaken, Shared, WishPhrase, Phrase, Ram, Pool, Tables, Flags, Vectors, Set, Name, Data, Hart, Start, Csr, Reg, Body, Do, Fault, Seq, Repeat, Choose, Way, Label, Close}
use Rattle.tpl_ast.specs.Bodies.{BodyLine, Leaf, FetchFault, EnterSeq, EnterRepeat, EnterChoose, EnterWay, LabelOf, Leave}
use Rattle.tpl_ast.specs.Lengths.{saturated}
use Rattle.tpl_lang.specs.Sets.{number, resolved, domain_of, outcome_number, points, listed, fours}
use Rattle.tpl_lang.specs.Words.{csr_of}
use Rattle.tpl_lang.specs.Known.{Block, Whole, Sequence, Times, Choice, Alternative, OpenedBlock, Head, Begin, Settings, Inside, Ended, Known, index_among}
use Rattle.tpl_lang.specs.Faults.{key_of_csr}

-- ---- lengths: a leaf is 1, a label 0, a sequence the sum, a repeat its times by its body, at least 1, a choice 1 and its longest alternative

abbrev pub longer : ℕ → OpenedBlock → OpenedBlock
longer n o = record o { length = saturated (o.length + n) }

abbrev pub add_length : ℕ → List OpenedBlock → List OpenedBlock
add_length n [] = []
add_length n (o ∷ os) = longer n o ∷ os

abbrev pub add_way : ℕ → ℕ → List OpenedBlock → List OpenedBlock
add_way w n [] = []
add_way w n (o ∷ os) = record { block = o.block; length = max o.length n; ways = o.ways + 1; weighted = o.weighted || nat_lt 0 w } ∷ os

-- the blocks around one that is closed
abbrev pub closing : Block → ℕ → List OpenedBlock → List OpenedBlock
closing Whole n os = os
closing Sequence n os = add_length n os
closing (Times times) n os = add_length (saturated (times * max 1 n)) os
closing Choice n os = add_length (saturated (n + 1)) os
closing (Alternative w) n os = add_way w n os

-- ---- what is known behind a statement

-- a pair among pairs by ascending key
abbrev pub inserted : ℕ → ℕ → List (ℕ × ℕ) → List (ℕ × ℕ)
inserted key value [] = (key, value) ∷ []
inserted key value (e ∷ es) = if nat_lt key e.0 then (key, value) ∷ e ∷ es else e ∷ inserted key value es

abbrev pub atom_of : Known → AtomPhrase → Atom
atom_of k (Among v d) = atoms.In v (domain_of k.sets v d)
atom_of k (NotAmong v d) = atoms.NotIn v (domain_of k.sets v d)
atom_of k (IsName v name) = atoms.Is v (index_among k.names name)
atom_of k (Same v u) = atoms.Same v u
atom_of k (Differ v u) = atoms.Differ v u
atom_of k Taken = atoms.Taken
atom_of k NotTaken = atoms.NotTaken
atom_of k Shared = atoms.Shared

abbrev pub wish_of : Known → WishPhrase → Wish
wish_of k w = record { atom = atom_of k w.atom; prefer = w.prefer }

abbrev pub with_name : Known → List ℕ → List ℕ → Bool → Known
with_name k name elements label = record k { names = k.names ++ record { name = name; set = elements; label = label } ∷ [] }

abbrev pub with_line : Known → BodyLine → Known
with_line k l = record k { body = k.body ++ l ∷ [] }

-- an item of this length
abbrev pub with_item : Known → BodyLine → ℕ → Known
with_item k l n = let next = with_line k l in record next { blocks = add_length n k.blocks }

abbrev pub opened_as : Block → OpenedBlock
opened_as block = record { block = block; length = 0; ways = 0; weighted = false }

abbrev pub with_block : Known → BodyLine → Block → Known
with_block k l block = let next = with_line k l in record next { blocks = opened_as block ∷ k.blocks }

-- a block inside the body is closed
abbrev pub without_block : Known → OpenedBlock → List OpenedBlock → Known
without_block k o os = let next = with_line k Leave in record next { blocks = closing o.block o.length os }

abbrev pub value_at : List (ℕ × ℕ) → ℕ → ℕ
value_at [] key = 0
value_at (e ∷ es) key = if e.0 == key then e.1 else value_at es key

-- mstatus, medeleg and satp are fixed parts
abbrev pub is_fixed_key : ℕ → Bool
is_fixed_key key = key == 0x1300 || (key == 0x1302 || key == 0x1180)

abbrev pub lazy_places : List (ℕ × ℕ) → List (ℕ × ℕ)
lazy_places [] = []
lazy_places (e ∷ es) = if is_fixed_key e.0 then lazy_places es else e ∷ lazy_places es

abbrev pub start_of : Known → HartState
start_of k = record {
  pc = k.pc;
  privilege = k.privilege;
  mstatus = value_at k.given 0x1300;
  medeleg = value_at k.given 0x1302;
  satp = value_at k.given 0x1180;
  places = lazy_places k.given;
}

-- the body is closed, and the hart stands with it
abbrev pub with_hart : Known → ℕ → Known
with_hart k n = record k {
  place = Ended;
  harts = k.harts ++ record { start = start_of k; body = k.body } ∷ [];
  length = saturated (k.length + n);
  given = [];
  body = [];
  blocks = [];
}

abbrev pub closed_block : Known → OpenedBlock → List OpenedBlock → Known
closed_block k o os = elim (o.block) [
  | Whole ↦ with_hart k (o.length)
  | _ ↦ without_block k o os
]

abbrev pub closed_in : Known → List OpenedBlock → Known
closed_in k [] = record k { place = Head }
closed_in k (o ∷ os) = closed_block k o os

abbrev pub values_of : List Numeral → List ℕ
values_of ns = map number ns

abbrev pub all_values : List ℕ
all_values = listed ((0, 2 ^ 32 - 1) ∷ []) 1

abbrev pub after : Known → ℕ → Phrase → Known
after k line (Ram lo hi) = record k { ram = k.ram ++ record { low = number lo; high = number hi } ∷ [] }
after k line (Pool fs) = record k { pool = k.pool ++ values_of fs }
after k line (Tables fs) = record k { tables = k.tables ++ values_of fs }
after k line (Flags bs) = record k { flags = k.flags ++ values_of bs }
after k line (Vectors s) = record k { vectors = Some (fours (resolved k.sets s)) }
after k line (Set name s) = record k { sets = k.sets ++ (name, resolved k.sets s) ∷ [] }
after k line (Name name s) = with_name k name (resolved k.sets s) false
after k line (Data a w) = record k { words = inserted (number a) (number w) k.words }
after k line (Hart n) = record k { place = Begin }
after k line (Start pc p) = record k { place = Settings; pc = number pc; privilege = p }
after k line (Csr name v) = record k { given = inserted (key_of_csr (csr_of name)) (number v) k.given }
after k line (Reg n v) = record k { given = inserted (unwrap_or n 0) (number v) k.given }
after k line Body = record k { place = Inside; body = []; blocks = opened_as Whole ∷ [] }
after k line (Do ws) = with_item k (Leaf line (map (wish_of k) ws)) 1
after k line (Fault os) = with_item k (FetchFault line (listed (points (map outcome_number os)) 1)) 1
after k line Seq = with_block k EnterSeq Sequence
after k line (Repeat n) = with_block k (EnterRepeat (number n)) (Times (number n))
after k line Choose = with_block k (EnterChoose line) Choice
after k line (Way w) = with_block k (EnterWay (number w)) (Alternative (number w))
after k line (Label name) = let next = with_item k (LabelOf (length k.names)) 0 in with_name next name all_values true
after k line Close = closed_in k k.blocks
