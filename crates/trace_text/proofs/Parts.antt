-- The report as far as it is written.
use Rattle.std.proofs.Common.{◌≡◌, ℕ, ◌+◌, ◌<◌, List, [], ◌∷◌, ◌++◌, length, take, sym, ap, arith, min}
use Rattle.std.proofs.lemmas.List.{flat_map_more, take_more, append-nil, take_all, get_or_default}
use Rattle.std.proofs.lemmas.Slice.Zip.{length-zip, get_or-zip}
use Rattle.std.proofs.Math.ListN.{get_or}
use Rattle.std.specs.List.{flat_map, enumerate_from, zip}
use Rattle.rv_hart.specs.declared.record.Record.{Record}
use Rattle.tpl_admit.specs.declared.certificate.Cert.{Cert}
use Rattle.tpl_ast.specs.declared.template.HartState.{HartState}
use Rattle.tpl_admit.specs.Starts.{trace_of, final_of, no_state}
use Rattle.trace_text.specs.Report.{hart_text, harts_text, word_line, words_text}
use Rattle.trace_text.proofs.Numbered.{numbered_more}

-- the text of hart k of a certificate, which starts in this state
abbrev pub hart_of : Cert → ℕ × HartState → List ℕ
hart_of c p = hart_text p.0 p.1 (trace_of c p.0) (final_of c p.0)

-- the first n harts
unfoldable pub first_harts : Cert → ℕ → List ℕ
first_harts c n = flat_map (hart_of c) (enumerate_from 0 (take n c.start))

pub harts_more : (c : Cert) (bs : List ℕ) (k : ℕ) (d : HartState) → k < length c.start → (bs ++ first_harts c k) ++ hart_text k (get_or c.start k d) (trace_of c k) (final_of c k) ≡ bs ++ first_harts c (k + 1)
unfolding first_harts
harts_more c bs k d lt = numbered_more (hart_of c) bs c.start k d lt

-- the first n words
unfoldable pub first_words : List (ℕ × ℕ) → List ℕ → ℕ → List ℕ
first_words words last n = flat_map word_line (take n (zip words last))

pub words_more : (words : List (ℕ × ℕ)) (last bs : List ℕ) (i : ℕ) (d : (ℕ × ℕ) × ℕ) → i < length words → i < length last → (bs ++ first_words words last i) ++ word_line (get_or words i d.0, get_or last i d.1) ≡ bs ++ first_words words last (i + 1)
unfolding first_words
words_more words last bs i d below also =
    let there : i < length (zip words last) = omega (arith, length-zip words last) in
    let one : take (i + 1) (zip words last) ≡ take i (zip words last) ++ get_or (zip words last) i d ∷ [] = take_more (zip words last) i d there in
    let pair : get_or (zip words last) i d ≡ (get_or words i d.0, get_or last i d.1) = get_or-zip words last i d below also in
    let more : (bs ++ flat_map word_line (take i (zip words last))) ++ word_line (get_or (zip words last) i d) ≡ bs ++ flat_map word_line (take i (zip words last) ++ get_or (zip words last) i d ∷ []) = flat_map_more word_line bs (take i (zip words last)) (get_or (zip words last) i d) in
    cc

pub harts_none : (c : Cert) (bs : List ℕ) → bs ≡ bs ++ first_harts c 0
unfolding first_harts
harts_none c bs = sym (append-nil bs)

pub harts_all : (c : Cert) (n : ℕ) → n ≡ length c.start → first_harts c n ≡ harts_text c
unfolding first_harts harts_text
harts_all c n e = let all : take n c.start ≡ c.start = take_all n c.start (omega arith) in ap (λ xs. flat_map (hart_of c) (enumerate_from 0 xs)) all

pub words_none : (words : List (ℕ × ℕ)) (last bs : List ℕ) → bs ≡ bs ++ first_words words last 0
unfolding first_words
words_none words last bs = sym (append-nil bs)

pub words_all : (words : List (ℕ × ℕ)) (last : List ℕ) (n : ℕ) → n ≡ min (length words) (length last) → first_words words last n ≡ words_text words last
unfolding first_words words_text
words_all words last n e = let all : take n (zip words last) ≡ zip words last = take_all n (zip words last) (omega (arith, length-zip words last)) in ap (λ xs. flat_map word_line xs) all

-- one more hart, as a loop over slices of the certificate's lists reads it
pub hart_read : (c : Cert) (bs text after : List ℕ) (k : ℕ) (ss : List HartState) (ts : List (List Record)) (fs : List HartState) (s : HartState) (t u : List Record) (f : HartState) → ss ≡ c.start → ts ≡ c.traces → fs ≡ c.finals → length c.traces ≡ length c.start → length c.finals ≡ length c.start → k < length ss → s ≡ get_or ss k s → t ≡ get_or ts k t → u ≡ t → f ≡ get_or fs k f → text ≡ bs ++ first_harts c k → after ≡ text ++ hart_text k s u f → after ≡ bs ++ first_harts c (k + 1)
hart_read c bs text after k ss ts fs s t u f es et ef lt lf below is it iu if was pushed =
    let there : k < length c.start = omega (arith, ap length es, below) in
    let more : (bs ++ first_harts c k) ++ hart_text k (get_or c.start k s) (trace_of c k) (final_of c k) ≡ bs ++ first_harts c (k + 1) = harts_more c bs k s there in
    let trace : get_or c.traces k t ≡ trace_of c k = get_or_default c.traces k t [] (omega arith) in
    let final : get_or c.finals k f ≡ final_of c k = get_or_default c.finals k f no_state (omega arith) in
    cc
