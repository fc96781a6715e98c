-- The tokens of a line are a statement exactly where the statement is spelled with them.
use Rattle.std.proofs.Common.{◌≡◌, ℕ, false, List, [], ◌∷◌, ◌++◌, append-nil, Option, Some, None, option_map, refl, sym, ap, ◌∙◌, subst}
use Rattle.rv_csr.specs.declared.privilege.Priv.{Priv}
use Rattle.tpl_lang.specs.declared.mark.Mark.{Mark}
use Rattle.tpl_lang.specs.declared.mark.Mark.TheVariants as marks
use Rattle.tpl_lang.specs.declared.phrase.Numeral.{Numeral}
use Rattle.tpl_lang.specs.declared.phrase.OutcomeElement.{OutcomeElement}
use Rattle.tpl_lang.specs.declared.words.Key.{Key}
use Rattle.tpl_lang.specs.declared.words.Key.TheVariants as keys
use Rattle.tpl_lang.specs.Reading.{block_at, close_at, csr_at, data_at, domain_of_name_at, fault_at, hart_at, keyed_at, label_at, named_set_at, ram_at, reg_at, register_at, repeat_at, signed_at, start_at, statement_of, vectors_at, way_at, worded_at}
use Rattle.tpl_lang.specs.PartReading.{◌>>=◌, end_at, mark_at, number_at, open_at, outcomes_at, set_at, with_rest}
use Rattle.tpl_lang.specs.Laws.{StatementsAreSpelled}
use Rattle.tpl_lang.specs.Phrases.{SetPhrase, Phrase, Ram, Pool, Tables, Flags, Vectors, Set, Name, Data, Hart, Start, Csr, Reg, Body, Do, Fault, Seq, Repeat, Choose, Way, Label, Close}
use Rattle.tpl_lang.specs.Grammar.{IsSet, IsSome, Spells, braced, key, outcome, privilege, set}
use Rattle.tpl_lang.specs.Tokens.{Token, Word, Number, Sign}
use Rattle.tpl_lang.specs.Words.{is_reserved, key_of, register_of}
use Rattle.tpl_lang.proofs.Atoms.{wishes_back, wishes_there}
use Rattle.tpl_lang.proofs.Domains.{a_set}
use Rattle.tpl_lang.proofs.Lists.{numbers_back, numbers_there, outcomes_in_braces}
use Rattle.tpl_lang.proofs.Readers.{Yields, a_name, a_number, a_privilege, a_word, bound, follows, it, key_is, mapped, nothing, part, the_colon, the_end, the_in, the_is, the_open, the_outcome, the_pc, the_priv}
use Rattle.tpl_lang.proofs.Spelled.{words_are_read}

-- ---- what is read is spelled so

-- a set that ends the line
whole : {ts rest : List Token} (s : SetPhrase) → ts ≡ set s ++ rest → rest ≡ [] → ts ≡ set s
whole s e end = e ∙ ap (λ us. set s ++ us) end ∙ append-nil (set s)

abbrev SaidBehind : Key → List Token → Option Phrase → Type 0
SaidBehind k ts o = Yields o (λ p. Spells p (key k ∷ ts))

ram_there : (ts : List Token) → SaidBehind keys.Ram ts (ram_at ts)
unfolding ram_at
ram_there ts = part (a_number.there ts) (λ low f e. part (a_number.there low.1) (λ high g is. bound (the_end high.1) (λ u end. it (Ram low.0 high.0) cc)))

vectors_there : (ts : List Token) → SaidBehind keys.Vectors ts (vectors_at ts)
unfolding vectors_at
vectors_there ts = part (a_set.there ts) (λ s fits e. bound (the_end s.1) (λ u end. it (Vectors s.0) (fits, ap (λ us. key keys.Vectors ∷ us) (whole s.0 e end))))

set_statement_there : (ts : List Token) → SaidBehind keys.Set ts (named_set_at ts)
unfolding named_set_at
set_statement_there ts = part (a_name.there ts) (λ name free e. bound (the_is.there name.1) (λ rest is. part (a_set.there rest) (λ s fits h. bound (the_end s.1) (λ u end.
    it (Set name.0 s.0) (free, fits, ap (λ us. key keys.Set ∷ us) (e ∙ ap (λ us. Word name.0 ∷ us) (is ∙ ap (λ us. Sign marks.Is ∷ us) (whole s.0 h end))))))))

domain_statement_there : (ts : List Token) → SaidBehind keys.Name ts (domain_of_name_at ts)
unfolding domain_of_name_at
domain_statement_there ts = part (a_name.there ts) (λ name free e. bound (the_in.there name.1) (λ rest is. part (a_set.there rest) (λ s fits h. bound (the_end s.1) (λ u end.
    it (Name name.0 s.0) (free, fits, ap (λ us. key keys.Name ∷ us) (e ∙ ap (λ us. Word name.0 ∷ us) (is ∙ ap (λ us. key keys.In ∷ us) (whole s.0 h end))))))))

data_there : (ts : List Token) → SaidBehind keys.Data ts (data_at ts)
unfolding data_at
data_there ts = part (a_number.there ts) (λ address f e. bound (the_is.there address.1) (λ rest is. part (a_number.there rest) (λ word g h. bound (the_end word.1) (λ u end. it (Data address.0 word.0) cc))))

hart_there : (ts : List Token) → SaidBehind keys.Hart ts (hart_at ts)
unfolding hart_at
hart_there ts = part (a_number.there ts) (λ number f e. bound (the_open number.1) (λ u end. it (Hart number.0) cc))

start_there : (ts : List Token) → SaidBehind keys.Start ts (start_at ts)
unfolding start_at
start_there ts = bound (the_pc.there ts) (λ rest e. part (a_number.there rest) (λ pc f is. bound (the_priv.there pc.1) (λ next h. part (a_privilege.there next) (λ privilege g i. bound (the_end privilege.1) (λ u end. it (Start pc.0 privilege.0) cc)))))

csr_there : (ts : List Token) → SaidBehind keys.Csr ts (csr_at ts)
unfolding csr_at
csr_there ts = part (a_word.there ts) (λ name f e. bound (the_is.there name.1) (λ rest is. part (a_number.there rest) (λ value g h. bound (the_end value.1) (λ u end. it (Csr name.0 value.0) cc))))

-- a register's number, and its word
register_there : (ts : List Token) → Yields (register_at ts) (λ x. (word : List ℕ) × (register_of word ≡ Some x.0) × (ts ≡ Word word ∷ x.1))
unfolding register_at
register_there ts = part (a_word.there ts) (λ w f e. go w.0 w.1 (register_of w.0) refl e) where
  go : (w : List ℕ) (rest : List Token) (o : Option (Option ℕ)) → register_of w ≡ o → ts ≡ Word w ∷ rest → Yields (with_rest rest o) (λ x. (word : List ℕ) × (register_of word ≡ Some x.0) × (ts ≡ Word word ∷ x.1))
  go w rest None is e = nothing
  go w rest (Some n) is e = it (n, rest) (w, is, e)

reg_there : (ts : List Token) → SaidBehind keys.Reg ts (reg_at ts)
unfolding reg_at
reg_there ts = bound (register_there ts) (λ number h. bound (the_is.there number.1) (λ rest is. part (a_number.there rest) (λ value f i. bound (the_end value.1) (λ u end.
    it (Reg number.0 value.0) (h.0, h.1, ap (λ us. key keys.Reg ∷ us) (h.2 ∙ ap (λ us. Word h.0 ∷ us) (is ∙ ap (λ us. Sign marks.Is ∷ us) (i ∙ ap (λ us. Number value.0 ∷ us) end))))))))

fault_there : (ts : List Token) → SaidBehind keys.Fault ts (fault_at ts)
unfolding fault_at
fault_there ts = bound (the_outcome.there ts) (λ next e. bound (the_in.there next) (λ rest is. part (outcomes_in_braces.there rest) (λ os some h. bound (the_end os.1) (λ u end.
    it (Fault os.0) (some, ap (λ us. key keys.Fault ∷ us) (e ∙ ap (λ us. key keys.Outcome ∷ us) (is ∙ ap (λ us. key keys.In ∷ us) (h ∙ ap (λ us. braced outcome os.0 ++ us) end ∙ append-nil (braced outcome os.0)))))))))

repeat_there : (ts : List Token) → SaidBehind keys.Repeat ts (repeat_at ts)
unfolding repeat_at
repeat_there ts = part (a_number.there ts) (λ times f e. bound (the_open times.1) (λ u end. it (Repeat times.0) cc))

label_there : (ts : List Token) → SaidBehind keys.Label ts (label_at ts)
unfolding label_at
label_there ts = part (a_name.there ts) (λ name free e. bound (the_end name.1) (λ u end. it (Label name.0) (free, cc)))

block_there : (k : Key) (p : Phrase) → Spells p (key k ∷ Sign marks.Open ∷ []) → (ts : List Token) → SaidBehind k ts (block_at p ts)
unfolding block_at
block_there k p is ts = bound (the_open ts) (λ u end. it p (subst (λ us. Spells p (key k ∷ us)) (sym end) is))

keyed_there : (k : Key) (ts : List Token) → SaidBehind k ts (keyed_at k ts)
keyed_there keys.Ram ts = ram_there ts
keyed_there keys.Pool ts = mapped Pool (numbers_there ts) (λ ns h. (h.0, ap (λ us. key keys.Pool ∷ us) h.1))
keyed_there keys.Tables ts = mapped Tables (numbers_there ts) (λ ns h. (h.0, ap (λ us. key keys.Tables ∷ us) h.1))
keyed_there keys.Pteflags ts = mapped Flags (numbers_there ts) (λ ns h. (h.0, ap (λ us. key keys.Pteflags ∷ us) h.1))
keyed_there keys.Vectors ts = vectors_there ts
keyed_there keys.Set ts = set_statement_there ts
keyed_there keys.Name ts = domain_statement_there ts
keyed_there keys.Data ts = data_there ts
keyed_there keys.Hart ts = hart_there ts
keyed_there keys.Start ts = start_there ts
keyed_there keys.Csr ts = csr_there ts
keyed_there keys.Reg ts = reg_there ts
keyed_there keys.Body ts = block_there keys.Body Body refl ts
keyed_there keys.Do ts = mapped Do (wishes_there ts) (λ ws h. (h.0, ap (λ us. key keys.Do ∷ us) h.1))
keyed_there keys.Fault ts = fault_there ts
keyed_there keys.Seq ts = block_there keys.Seq Seq refl ts
keyed_there keys.Repeat ts = repeat_there ts
keyed_there keys.Choose ts = block_there keys.Choose Choose refl ts
keyed_there keys.Label ts = label_there ts
keyed_there _ ts = nothing

worded_there : (w : List ℕ) (ts : List Token) (o : Option Key) → key_of w ≡ o → Yields (worded_at o ts) (λ p. Spells p (Word w ∷ ts))
worded_there w ts None e = nothing
worded_there w ts (Some k) e = subst (λ v. Yields (keyed_at k ts) (λ p. Spells p (Word v ∷ ts))) (sym (key_is w k e)) (keyed_there k ts)

way_there : (weight : Numeral) (ts : List Token) → Yields (way_at weight ts) (λ p. Spells p (Number weight ∷ ts))
unfolding way_at
way_there weight ts = bound (the_colon.there ts) (λ rest e. bound (the_open rest) (λ u end. it (Way weight) cc))

signed_there : (m : Mark) (ts : List Token) → Yields (signed_at m ts) (λ p. Spells p (Sign m ∷ ts))
unfolding close_at
signed_there marks.Close ts = bound (the_end ts) (λ u end. it Close (ap (λ us. Sign marks.Close ∷ us) end))
signed_there _ ts = nothing

statement_there : (ts : List Token) → Yields (statement_of ts) (λ p. Spells p ts)
unfolding statement_of
statement_there [] = nothing
statement_there (Word w ∷ ts) = worded_there w ts (key_of w) refl
statement_there (Number n ∷ ts) = way_there n ts
statement_there (Sign m ∷ ts) = signed_there m ts

-- ---- what is spelled so is read

-- a statement behind its first word
behind : (k : Key) (us : List Token) (p : Phrase) → keyed_at k us ≡ Some p → (ts : List Token) → ts ≡ key k ∷ us → statement_of ts ≡ Some p
unfolding statement_of
behind k us p is ts e = ap statement_of e ∙ ap (λ o. worded_at o us) (words_are_read.keys k) ∙ is

set_alone : (s : SetPhrase) → IsSet s → set_at (set s) ≡ Some (s, [])
set_alone s is = ap set_at (sym (append-nil (set s))) ∙ a_set.back s [] is tt

-- nothing is left behind it
ends : (p : Phrase) → (end_at [] >>= λ u. Some p) ≡ Some p
unfolding end_at
ends p = refl

opens : (p : Phrase) → (open_at (Sign marks.Open ∷ []) >>= λ u. Some p) ≡ Some p
unfolding open_at mark_at end_at
opens p = refl

ram_back : (low high : Numeral) → ram_at (Number low ∷ Number high ∷ []) ≡ Some (Ram low high)
unfolding ram_at number_at end_at
ram_back low high = refl

vectors_back : (s : SetPhrase) → IsSet s → vectors_at (set s) ≡ Some (Vectors s)
unfolding vectors_at
vectors_back s is = follows _ (set_alone s is) (ends _)

set_statement_back : (name : List ℕ) (s : SetPhrase) → is_reserved name ≡ false → IsSet s → named_set_at (Word name ∷ Sign marks.Is ∷ set s) ≡ Some (Set name s)
unfolding named_set_at
set_statement_back name s free is = follows _ (a_name.back name _ free tt) (follows _ (the_is.back _) (follows _ (set_alone s is) (ends _)))

domain_statement_back : (name : List ℕ) (s : SetPhrase) → is_reserved name ≡ false → IsSet s → domain_of_name_at (Word name ∷ key keys.In ∷ set s) ≡ Some (Name name s)
unfolding domain_of_name_at
domain_statement_back name s free is = follows _ (a_name.back name _ free tt) (follows _ (the_in.back _) (follows _ (set_alone s is) (ends _)))

data_back : (address word : Numeral) → data_at (Number address ∷ Sign marks.Is ∷ Number word ∷ []) ≡ Some (Data address word)
unfolding data_at
data_back address word = follows _ (a_number.back address _ tt tt) (follows _ (the_is.back _) (follows _ (a_number.back word [] tt tt) (ends _)))

hart_back : (k : Numeral) → hart_at (Number k ∷ Sign marks.Open ∷ []) ≡ Some (Hart k)
unfolding hart_at
hart_back k = follows _ (a_number.back k _ tt tt) (opens _)

start_back : (pc : Numeral) (p : Priv) → start_at (key keys.Pc ∷ Number pc ∷ key keys.Priv ∷ key (privilege p) ∷ []) ≡ Some (Start pc p)
unfolding start_at
start_back pc p = follows _ (the_pc.back _) (follows _ (a_number.back pc _ tt tt) (follows _ (the_priv.back _) (follows _ (a_privilege.back p [] tt tt) (ends _))))

csr_back : (name : List ℕ) (value : Numeral) → csr_at (Word name ∷ Sign marks.Is ∷ Number value ∷ []) ≡ Some (Csr name value)
unfolding csr_at
csr_back name value = follows _ (a_word.back name _ tt tt) (follows _ (the_is.back _) (follows _ (a_number.back value [] tt tt) (ends _)))

reg_back : (word : List ℕ) (n : Option ℕ) (value : Numeral) → register_of word ≡ Some n → reg_at (Word word ∷ Sign marks.Is ∷ Number value ∷ []) ≡ Some (Reg n value)
unfolding reg_at register_at
reg_back word n value is = follows _ (follows _ (a_word.back word _ tt tt) (ap (with_rest _) is)) (follows _ (the_is.back _) (follows _ (a_number.back value [] tt tt) (ends _)))

fault_back : (os : List OutcomeElement) → IsSome os → fault_at (key keys.Outcome ∷ key keys.In ∷ braced outcome os) ≡ Some (Fault os)
unfolding fault_at
fault_back os some = follows _ (the_outcome.back _) (follows _ (the_in.back _) (follows _ (ap outcomes_at (sym (append-nil (braced outcome os))) ∙ outcomes_in_braces.back os [] some tt) (ends _)))

repeat_back : (times : Numeral) → repeat_at (Number times ∷ Sign marks.Open ∷ []) ≡ Some (Repeat times)
unfolding repeat_at
repeat_back times = follows _ (a_number.back times _ tt tt) (opens _)

label_back : (name : List ℕ) → is_reserved name ≡ false → label_at (Word name ∷ []) ≡ Some (Label name)
unfolding label_at
label_back name free = follows _ (a_name.back name [] free tt) (ends _)

block_back : (p : Phrase) → block_at p (Sign marks.Open ∷ []) ≡ Some p
unfolding block_at
block_back p = opens p

way_back : (weight : Numeral) → statement_of (Number weight ∷ Sign marks.Colon ∷ Sign marks.Open ∷ []) ≡ Some (Way weight)
unfolding statement_of way_at
way_back weight = follows _ (the_colon.back _) (opens _)

close_back : statement_of (Sign marks.Close ∷ []) ≡ Some Close
unfolding statement_of close_at
close_back = ends _

statement_back : (p : Phrase) (ts : List Token) → Spells p ts → statement_of ts ≡ Some p
statement_back (Ram low high) ts h = behind keys.Ram _ _ (ram_back low high) ts h
statement_back (Pool ns) ts h = behind keys.Pool _ _ (ap (option_map Pool) (numbers_back ns h.0)) ts h.1
statement_back (Tables ns) ts h = behind keys.Tables _ _ (ap (option_map Tables) (numbers_back ns h.0)) ts h.1
statement_back (Flags ns) ts h = behind keys.Pteflags _ _ (ap (option_map Flags) (numbers_back ns h.0)) ts h.1
statement_back (Vectors s) ts h = behind keys.Vectors _ _ (vectors_back s h.0) ts h.1
statement_back (Set name s) ts h = behind keys.Set _ _ (set_statement_back name s h.0 h.1) ts h.2
statement_back (Name name s) ts h = behind keys.Name _ _ (domain_statement_back name s h.0 h.1) ts h.2
statement_back (Data address word) ts h = behind keys.Data _ _ (data_back address word) ts h
statement_back (Hart k) ts h = behind keys.Hart _ _ (hart_back k) ts h
statement_back (Start pc p) ts h = behind keys.Start _ _ (start_back pc p) ts h
statement_back (Csr name value) ts h = behind keys.Csr _ _ (csr_back name value) ts h
statement_back (Reg n value) ts h = behind keys.Reg _ _ (reg_back h.0 n value h.1) ts h.2
statement_back Body ts h = behind keys.Body _ _ (block_back Body) ts h
statement_back (Do ws) ts h = behind keys.Do _ _ (ap (option_map Do) (wishes_back ws h.0)) ts h.1
statement_back (Fault os) ts h = behind keys.Fault _ _ (fault_back os h.0) ts h.1
statement_back Seq ts h = behind keys.Seq _ _ (block_back Seq) ts h
statement_back (Repeat times) ts h = behind keys.Repeat _ _ (repeat_back times) ts h
statement_back Choose ts h = behind keys.Choose _ _ (block_back Choose) ts h
statement_back (Way weight) ts h = ap statement_of h ∙ way_back weight
statement_back (Label name) ts h = behind keys.Label _ _ (label_back name h.0) ts h.1
statement_back Close ts h = ap statement_of h ∙ close_back

pub statements_are_spelled : StatementsAreSpelled
statements_are_spelled tokens p = ((statement_there tokens).of p, statement_back p tokens)
