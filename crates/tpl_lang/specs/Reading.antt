-- Which statement a line's tokens are, if they are one.
use Rattle.std.specs.Prelude.{ℕ, List, [], ◌∷◌, Option, Some, None, option_map}
use Rattle.rv_csr.specs.declared.privilege.Priv.{Priv}
use Rattle.rv_csr.specs.declared.privilege.Priv.TheVariants as levels
use Rattle.tpl_lang.specs.declared.mark.Mark.{Mark}
use Rattle.tpl_lang.specs.declared.mark.Mark.TheVariants as marks
use Rattle.tpl_lang.specs.declared.phrase.Numeral.{Numeral}
use Rattle.tpl_lang.specs.declared.words.Key.{Key}
use Rattle.tpl_lang.specs.declared.words.Key.TheVariants as keys
use Rattle.tpl_lang.specs.Phrases.{Phrase, Ram, Pool, Tables, Flags, Vectors, Set, Name, Data, Hart, Start, Csr, Reg, Body, Do, Fault, Seq, Repeat, Choose, Way, Label, Close}
use Rattle.tpl_lang.specs.Tokens.{Token, Word, Number, Sign}
use Rattle.tpl_lang.specs.Words.{key_of, register_of}
use Rattle.tpl_lang.specs.PartReading.{Read, ◌>>=◌, first_at, word_at, number_at, key_at, name_at, end_at, open_at, is_at, colon_at, within_at, set_at, outcomes_at, with_rest, wishes_at}

-- at least one number, up to the end of the line
abbrev pub more_numbers : List Token → Option (List Numeral)
more_numbers [] = Some []
more_numbers (Number n ∷ ts) = option_map (λ (ns : List Numeral). n ∷ ns) (more_numbers ts)
more_numbers (_ ∷ ts) = None

unfoldable pub numbers_at : List Token → Option (List Numeral)
numbers_at ts = do
  n ← number_at ts
  ns ← more_numbers n.1
  Some (n.0 ∷ ns)

unfoldable pub ram_at : List Token → Option Phrase
ram_at ts = do
  low ← number_at ts
  high ← number_at low.1
  _ ← end_at high.1
  Some (Ram low.0 high.0)

unfoldable pub vectors_at : List Token → Option Phrase
vectors_at ts = do
  s ← set_at ts
  _ ← end_at s.1
  Some (Vectors s.0)

unfoldable pub named_set_at : List Token → Option Phrase
named_set_at ts = do
  name ← name_at ts
  rest ← is_at name.1
  s ← set_at rest
  _ ← end_at s.1
  Some (Set name.0 s.0)

unfoldable pub domain_of_name_at : List Token → Option Phrase
domain_of_name_at ts = do
  name ← name_at ts
  rest ← within_at name.1
  s ← set_at rest
  _ ← end_at s.1
  Some (Name name.0 s.0)

unfoldable pub data_at : List Token → Option Phrase
data_at ts = do
  address ← number_at ts
  rest ← is_at address.1
  word ← number_at rest
  _ ← end_at word.1
  Some (Data address.0 word.0)

unfoldable pub hart_at : List Token → Option Phrase
hart_at ts = do
  number ← number_at ts
  _ ← open_at number.1
  Some (Hart number.0)

abbrev pub pc_by : Key → List Token → Option (List Token)
pc_by keys.Pc ts = Some ts
pc_by _ ts = None

unfoldable pub pc_at : List Token → Option (List Token)
pc_at ts = do
  k ← key_at ts
  pc_by k.0 k.1

abbrev pub priv_by : Key → List Token → Option (List Token)
priv_by keys.Priv ts = Some ts
priv_by _ ts = None

unfoldable pub priv_at : List Token → Option (List Token)
priv_at ts = do
  k ← key_at ts
  priv_by k.0 k.1

abbrev pub privilege_by : Key → List Token → Read Priv
privilege_by keys.Machine ts = Some (levels.M, ts)
privilege_by keys.Supervisor ts = Some (levels.S, ts)
privilege_by keys.User ts = Some (levels.U, ts)
privilege_by _ ts = None

unfoldable pub privilege_at : List Token → Read Priv
privilege_at ts = do
  k ← key_at ts
  privilege_by k.0 k.1

unfoldable pub start_at : List Token → Option Phrase
start_at ts = do
  rest ← pc_at ts
  pc ← number_at rest
  next ← priv_at pc.1
  privilege ← privilege_at next
  _ ← end_at privilege.1
  Some (Start pc.0 privilege.0)

unfoldable pub csr_at : List Token → Option Phrase
csr_at ts = do
  name ← word_at ts
  rest ← is_at name.1
  value ← number_at rest
  _ ← end_at value.1
  Some (Csr name.0 value.0)

-- a register's word: x and digits
unfoldable pub register_at : List Token → Read (Option ℕ)
register_at ts = do
  w ← word_at ts
  with_rest w.1 (register_of w.0)

unfoldable pub reg_at : List Token → Option Phrase
reg_at ts = do
  number ← register_at ts
  rest ← is_at number.1
  value ← number_at rest
  _ ← end_at value.1
  Some (Reg number.0 value.0)

abbrev pub outcome_by : Key → List Token → Option (List Token)
outcome_by keys.Outcome ts = Some ts
outcome_by _ ts = None

unfoldable pub outcome_word_at : List Token → Option (List Token)
outcome_word_at ts = do
  k ← key_at ts
  outcome_by k.0 k.1

unfoldable pub fault_at : List Token → Option Phrase
fault_at ts = do
  next ← outcome_word_at ts
  rest ← within_at next
  os ← outcomes_at rest
  _ ← end_at os.1
  Some (Fault os.0)

unfoldable pub repeat_at : List Token → Option Phrase
repeat_at ts = do
  times ← number_at ts
  _ ← open_at times.1
  Some (Repeat times.0)

unfoldable pub label_at : List Token → Option Phrase
label_at ts = do
  name ← name_at ts
  _ ← end_at name.1
  Some (Label name.0)

-- an alternative behind its weight
unfoldable pub way_at : Numeral → List Token → Option Phrase
way_at weight ts = do
  rest ← colon_at ts
  _ ← open_at rest
  Some (Way weight)

-- a statement that is a word and an open brace
unfoldable pub block_at : Phrase → List Token → Option Phrase
block_at p ts = do
  _ ← open_at ts
  Some p

unfoldable pub close_at : List Token → Option Phrase
close_at ts = do
  _ ← end_at ts
  Some Close

abbrev pub keyed_at : Key → List Token → Option Phrase
keyed_at keys.Ram ts = ram_at ts
keyed_at keys.Pool ts = option_map Pool (numbers_at ts)
keyed_at keys.Tables ts = option_map Tables (numbers_at ts)
keyed_at keys.Pteflags ts = option_map Flags (numbers_at ts)
keyed_at keys.Vectors ts = vectors_at ts
keyed_at keys.Set ts = named_set_at ts
keyed_at keys.Name ts = domain_of_name_at ts
keyed_at keys.Data ts = data_at ts
keyed_at keys.Hart ts = hart_at ts
keyed_at keys.Start ts = start_at ts
keyed_at keys.Csr ts = csr_at ts
keyed_at keys.Reg ts = reg_at ts
keyed_at keys.Body ts = block_at Body ts
keyed_at keys.Do ts = option_map Do (wishes_at ts)
keyed_at keys.Fault ts = fault_at ts
keyed_at keys.Seq ts = block_at Seq ts
keyed_at keys.Repeat ts = repeat_at ts
keyed_at keys.Choose ts = block_at Choose ts
keyed_at keys.Label ts = label_at ts
keyed_at _ ts = None

abbrev pub worded_at : Option Key → List Token → Option Phrase
worded_at None ts = None
worded_at (Some k) ts = keyed_at k ts

abbrev pub signed_at : Mark → List Token → Option Phrase
signed_at marks.Close ts = close_at ts
signed_at _ ts = None

abbrev pub statement_by : Token → List Token → Option Phrase
statement_by (Word w) ts = worded_at (key_of w) ts
statement_by (Sign m) ts = signed_at m ts
statement_by (Number n) ts = way_at n ts

-- the statement that a line's tokens are
unfoldable pub statement_of : List Token → Option Phrase
statement_of ts = do
  t ← first_at ts
  statement_by t.0 t.1
