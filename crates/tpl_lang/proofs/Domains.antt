-- Sets and domains are read as they are spelled.
use Rattle.std.proofs.Common.{◌≡◌, ℕ, cond, List, [], ◌∷◌, ◌++◌, append_assoc, Option, Some, None, refl, sym, ap, ◌∙◌}
use Rattle.tpl_lang.specs.declared.mark.Mark.TheVariants as marks
use Rattle.tpl_lang.specs.declared.phrase.Numeral.{Numeral}
use Rattle.tpl_ast.specs.declared.template.Var.{Var}
use Rattle.tpl_ast.specs.declared.template.Var.TheVariants as vars
use Rattle.tpl_lang.specs.declared.words.Key.{Key}
use Rattle.tpl_lang.specs.declared.words.Key.TheVariants as keys
use Rattle.tpl_lang.specs.PartReading.{◌>>=◌, align_at, domain_at, is_align, number_at, set_at}
use Rattle.tpl_lang.specs.Phrases.{SetPhrase, Named, Listed, Domain, Numbers, Words, Outcomes}
use Rattle.tpl_lang.specs.Grammar.{IsDomain, IsSet, align, braced, domain, element, key, set}
use Rattle.tpl_lang.specs.Tokens.{Token, Word, Number, Sign}
use Rattle.tpl_lang.specs.Words.{key_of}
use Rattle.tpl_lang.proofs.Lists.{a_list, an_element, closed, names, outcomes_in_braces}
use Rattle.tpl_lang.proofs.Readers.{Always, Reads, Takes, a_number, follows, it, key_is, nothing, part}
use Rattle.tpl_lang.proofs.Spelled.{words_are_read}

-- behind a set the line ends or a symbol stands; a word `align` would belong to the set
abbrev pub EndsSet : List Token → Type 0
EndsSet [] = Unit {0}
EndsSet (Word w ∷ ts) = ⊥
EndsSet (Number n ∷ ts) = ⊥
EndsSet (Sign m ∷ ts) = Unit {0}

align_of : (w : List ℕ) (ts : List Token) (o : Option Key) → key_of w ≡ o
    → Takes (Word w ∷ ts) (cond (is_align o) (number_at ts >>= λ n. Some (Some n.0, n.1)) (Some (None, Word w ∷ ts))) align Always
align_of w ts None e = record { yields = it (None, Word w ∷ ts) (tt, refl) }
align_of w ts (Some keys.Align) e = record { yields = part (a_number.there ts) (λ n f is. it (Some n.0, n.1) (tt, ap (λ v. Word v ∷ ts) (key_is w keys.Align e) ∙ ap (λ us. key keys.Align ∷ us) is)) }
align_of w ts (Some _) e = record { yields = it (None, Word w ∷ ts) (tt, refl) }

align_there : (ts : List Token) → Takes ts (align_at ts) align Always
unfolding align_at
align_there [] = record { yields = it (None, []) (tt, refl) }
align_there (Word w ∷ ts) = align_of w ts (key_of w) refl
align_there (Number n ∷ ts) = record { yields = it (None, Number n ∷ ts) (tt, refl) }
align_there (Sign m ∷ ts) = record { yields = it (None, Sign m ∷ ts) (tt, refl) }

align_back : (a : Option Numeral) (rest : List Token) → EndsSet rest → align_at (align a ++ rest) ≡ Some (a, rest)
unfolding align_at number_at
align_back None [] ends = refl
align_back None (Word w ∷ rest) ends = absurd ends
align_back None (Number n ∷ rest) ends = absurd ends
align_back None (Sign m ∷ rest) ends = refl
align_back (Some n) rest ends = ap (λ o. cond (is_align o) (Some (Some n, rest)) (Some (None, key keys.Align ∷ Number n ∷ rest))) (words_are_read.keys keys.Align)

set_there : (ts : List Token) → Takes ts (set_at ts) set IsSet
unfolding set_at
set_there [] = record { yields = nothing }
set_there (Word w ∷ ts) = record { yields = it (Named w, ts) (tt, refl) }
set_there (Number n ∷ ts) = record { yields = nothing }
set_there (Sign marks.Open ∷ ts) = record {
  yields = part ((a_list an_element).there ts) (λ es some e. part (align_there es.1) (λ a f is. it (Listed es.0 a.0, a.1) (
    some,
    ap (λ us. Sign marks.Open ∷ us) (e ∙ ap (λ us. closed element es.0 ++ us) is) ∙ sym (append_assoc (braced element es.0) (align a.0) a.1),
  )));
}
set_there (Sign _ ∷ ts) = record { yields = nothing }

set_back : (s : SetPhrase) (rest : List Token) → IsSet s → EndsSet rest → set_at (set s ++ rest) ≡ Some (s, rest)
unfolding set_at
set_back (Named w) rest is ends = refl
set_back (Listed es a) rest is ends = ap set_at (append_assoc (braced element es) (align a) rest)
    ∙ follows _ ((a_list an_element).back es (align a ++ rest) is tt) (follows _ (align_back a rest ends) refl)

pub a_set : Reads set_at set IsSet EndsSet
a_set = record { there = set_there; back = set_back }

domain_there : (v : Var) (ts : List Token) → Takes ts (domain_at v ts) domain (IsDomain v)
domain_there vars.Op ts = record { yields = part (names.there ts) (λ ws some e. it (Words ws.0, ws.1) (some, e)) }
domain_there vars.Csr ts = record { yields = part (names.there ts) (λ ws some e. it (Words ws.0, ws.1) (some, e)) }
domain_there vars.Outcome ts = record { yields = part (outcomes_in_braces.there ts) (λ os some e. it (Outcomes os.0, os.1) (some, e)) }
domain_there _ ts = record { yields = part (set_there ts) (λ s is e. it (Numbers s.0, s.1) (is, e)) }

domain_back : (v : Var) (d : Domain) (rest : List Token) → IsDomain v d → EndsSet rest → domain_at v (domain d ++ rest) ≡ Some (d, rest)
domain_back vars.Op (Words ws) rest is ends = follows _ (names.back ws rest is tt) refl
domain_back vars.Csr (Words ws) rest is ends = follows _ (names.back ws rest is tt) refl
domain_back vars.Outcome (Outcomes os) rest is ends = follows _ (outcomes_in_braces.back os rest is tt) refl
domain_back vars.Op _ rest is ends = absurd is
domain_back vars.Csr _ rest is ends = absurd is
domain_back vars.Outcome _ rest is ends = absurd is
domain_back v (Numbers s) rest is ends = follows _ (set_back s rest is ends) refl
domain_back v _ rest is ends = absurd is

pub a_domain : (v : Var) → Reads (domain_at v) domain (IsDomain v) EndsSet
a_domain v = record { there = domain_there v; back = domain_back v }
