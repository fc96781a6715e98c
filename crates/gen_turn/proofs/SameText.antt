-- What is made of a template is told by its text: it is the same of each template that the text is parsed as, which differ in how their lists are kept.
use Rattle.std.proofs.Common.{◌≡◌, ℕ, ◌<◌, Bool, List, [], ◌∷◌, length, map, replicate, Result, Ok, refl, sym, ap, ◌∙◌, subst}
use Rattle.std.specs.Prelude.{slice_index_or}
use Rattle.std.proofs.lemmas.List.{length-map}
use Rattle.tpl_lang.specs.declared.fault.Fault.{Fault}
use Rattle.tpl_ast.specs.declared.template.HartDecl.{HartDecl}
use Rattle.tpl_ast.specs.declared.template.HartState.{HartState}
use Rattle.tpl_ast.specs.declared.template.Item.{Item}
use Rattle.tpl_ast.specs.declared.template.Template.{Template}
use Rattle.tpl_ast.specs.declared.template.Wish.{Wish}
use Rattle.tpl_ast.specs.Bodies.{HartLines, hart_lines}
use Rattle.tpl_lang.specs.Parsing.{Parses, Said, parses, said_by}
use Rattle.tpl_admit.specs.Starts.{fixed_in, no_state, lookup}
use Rattle.tpl_admit.specs.Laws.{with_template}
use Rattle.tpl_admit.specs.declared.certificate.Cert.{Cert}
use Rattle.part_machine.specs.Whole.{Whole}
use Rattle.part_state.specs.Beginning.{IsBegun}
use Rattle.part_state.specs.State.{whole}
use Rattle.part_state.specs.Told.{Tells}
use Rattle.part_state.proofs.OneTelling.{telling_is_one}
use Rattle.fd_solve.specs.declared.answers.Solved.{Solved}
use Rattle.fd_solve.specs.declared.answers.Solved.TheVariants as answers
use Rattle.gen_search.specs.declared.draws.Tally.{Tally}
use Rattle.gen_search.specs.Moved.{IsMove, SameLeaf, same_do, same_fault, SearchesAreMoved, result_by, turned_by}
use Rattle.gen_search.specs.Search.{SearchResult, Turned, Turned.Taken, Turned.NoneFits, Turned.Spent}
use Rattle.gen_turn.specs.declared.making.Generated.{Generated}
use Rattle.gen_turn.specs.declared.making.Generated.TheVariants as made
use Rattle.gen_turn.specs.Drafts.{Drafted, at_test, drafted}
use Rattle.gen_turn.specs.Generating.{Comes, IsGenerated, IsOfTest}
use Rattle.gen_turn.specs.Laws.{SearchesHaveOneResult, TemplatesAreReady, TextsTellWhatIsMade, retold}
use Rattle.gen_turn.specs.Rules.{Shown, draft_of, draft_rules, shown, turn_shown}
use Rattle.gen_turn.specs.Turns.{EndsAs, GoesOn, IsAnswered, IsDone, IsFailed, IsTurnedTo}
use Rattle.gen_turn.proofs.OneGenerated.{done_or_not, one_last, one_result, one_tally}

-- ---- templates of one text

same_ok : (x y : Said) → ◌≡◌ {A = Result Said Fault} (Ok x) (Ok y) → x ≡ y
same_ok x y e = cc

pub said_same : (text : List ℕ) (t u : Template) → Parses text t → Parses text u → said_by t ≡ said_by u
said_same text t u p q = same_ok _ _ (sym p.says ∙ q.says)

abbrev with_harts : List HartDecl → Template → Template
with_harts hs t = record t { harts = hs }

-- they are one but for their harts
same_but : (t u : Template) → t.text ≡ u.text → said_by t ≡ said_by u → with_harts u.harts t ≡ u
same_but t u text said = λ i. record {
  text = text i;
  ram = ap (λ (s : Said). s.ram) said i;
  pool = ap (λ (s : Said). s.pool) said i;
  tables = ap (λ (s : Said). s.tables) said i;
  flags = ap (λ (s : Said). s.flags) said i;
  vectors = ap (λ (s : Said). s.vectors) said i;
  words = ap (λ (s : Said). s.words) said i;
  names = ap (λ (s : Said). s.names) said i;
  harts = u.harts;
}

-- ---- a draft with the harts of another template

module _ (hs : List HartDecl) where
  abbrev moved_draft : Drafted → Drafted
  moved_draft d = drafted (with_harts hs d.template) d.nodes d.now

  abbrev moved_turn : Turned Drafted → Turned Drafted
  moved_turn r = turned_by moved_draft r

  abbrev moved : Shown → Shown
  moved s = shown (with_harts hs s.template) s.nodes s.now

  ends_moved : (d : Drafted) (k : ℕ) (ws : List Wish) (dropped : List (ℕ × Bool)) (answer : Solved) (r : Turned Drafted) → EndsAs d k ws dropped answer r → EndsAs (moved_draft d) k ws dropped answer (moved_turn r)
  ends_moved d k ws dropped (answers.Found x) r ends = (ends.0, ends.1, ap moved_turn ends.2)
  ends_moved d k ws dropped answers.NoneFits r ends = ap moved_turn ends
  ends_moved d k ws dropped answers.Spent r ends = ap moved_turn ends

  answered_moved : (d : Drafted) (k : ℕ) (ws : List Wish) (draws : List ℕ) (r : Turned Drafted) → IsAnswered d k ws draws r → IsAnswered (moved_draft d) k ws draws (moved_turn r)
  answered_moved d k ws draws r answered = record {
    walk = answered.walk;
    pa = answered.pa;
    leads = answered.leads;
    answer = answered.answer;
    is = answered.is;
    ends = ends_moved d k ws answered.answer.dropped answered.answer.solved r answered.ends;
  }

  goes_moved : (d : Drafted) (k : ℕ) (ws : List Wish) (draws : List ℕ) (fetch : Solved) (r : Turned Drafted) → GoesOn d k ws draws fetch r → GoesOn (moved_draft d) k ws draws fetch (moved_turn r)
  goes_moved d k ws draws (answers.Found x) r behind = record { fetched = behind.fetched; placed = behind.placed; test = behind.test; words = behind.words; answered = answered_moved (at_test d behind.fetched) k ws draws r behind.answered }
  goes_moved d k ws draws answers.NoneFits r ends = ap moved_turn ends
  goes_moved d k ws draws answers.Spent r ends = ap moved_turn ends

  done_moved : (d : Drafted) (k : ℕ) (ws : List Wish) (draws : List ℕ) (r : Turned Drafted) → IsDone d k ws draws r → IsDone (moved_draft d) k ws draws (moved_turn r)
  done_moved d k ws draws r done = record { fetch = done.fetch; is = done.is; goes_on = goes_moved d k ws draws done.fetch r done.goes_on }

  failed_moved : (d : Drafted) (k : ℕ) (causes draws : List ℕ) (r : Turned Drafted) → IsFailed d k causes draws r → IsFailed (moved_draft d) k causes draws (moved_turn r)
  failed_moved d k causes draws r failed = record { fetch = failed.fetch; is = failed.is; ends = ends_moved d k [] [] failed.fetch r failed.ends }

  turn_moved : (d : Drafted) (k : ℕ) (leaf other : Item) (draws : List ℕ) (r : Turned Drafted) → SameLeaf leaf other → IsTurnedTo d k leaf draws r → IsTurnedTo (moved_draft d) k other draws (moved_turn r)
  turn_moved d k leaf other draws r (same_do line ws vs same) done = done_moved d k vs.items draws r (subst (λ (is : List Wish). IsDone d k is draws r) same done)
  turn_moved d k leaf other draws r (same_fault line causes) failed = failed_moved d k causes draws r failed

  shown_moved : (r : Turned Drafted) → turned_by moved (turn_shown r) ≡ turn_shown (moved_turn r)
  shown_moved (Taken d) = refl
  shown_moved NoneFits = refl
  shown_moved Spent = refl

  is_move : IsMove draft_rules moved
  is_move = record {
    turn = λ hart leaf other draws s r same turned. (moved_turn turned.0, turn_moved (draft_of s) hart leaf other draws turned.0 same turned.1, ap (turned_by moved) turned.2 ∙ shown_moved turned.0);
    label = λ hart name s. refl;
    way = λ way s. refl;
  }

-- ---- the beginning

starts_are : (hs : List HartDecl) → map (λ (l : HartLines). l.start) (map hart_lines hs) ≡ map (λ d. d.start) hs
starts_are [] = refl
starts_are (h ∷ hs) = ap (λ (ss : List HartState). h.start ∷ ss) (starts_are hs)

begun_moved : (t : Template) (hs : List HartDecl) (w : Whole) → map hart_lines t.harts ≡ map hart_lines hs → IsBegun t w → IsBegun (with_harts hs t) w
begun_moved t hs w same begun =
    let starts : map (λ (d : HartDecl). d.start) t.harts ≡ map (λ (d : HartDecl). d.start) hs = sym (starts_are t.harts) ∙ ap (map (λ (l : HartLines). l.start)) same ∙ starts_are hs in
    let count : length t.harts ≡ length hs = sym (length-map t.harts (λ d. d.start)) ∙ ap length starts ∙ length-map hs (λ d. d.start) in
    record {
      count = begun.count ∙ count;
      first = begun.first;
      fixed = λ k l. begun.fixed k (subst (λ (n : ℕ). k < n) (sym count) l) ∙ ap (λ (ss : List HartState). fixed_in t.ram k (slice_index_or ss k no_state)) starts;
      places = λ k key l. begun.places k key (subst (λ (n : ℕ). k < n) (sym count) l) ∙ ap (λ (ss : List HartState). lookup (slice_index_or ss k no_state).places key) starts;
      ends = begun.ends;
      ram = begun.ram;
      listed = begun.listed;
      words = begun.words;
      memory = begun.memory;
      traces = begun.traces ∙ ap (λ (n : ℕ). replicate n []) count;
      names = begun.names;
      choices = begun.choices;
      dropped = begun.dropped;
    }

-- ---- the search

comes_moved : SearchesAreMoved draft_rules → (t u : Template) (seed nodes turns : ℕ) (r : SearchResult Shown) → t.text ≡ u.text → said_by t ≡ said_by u → Comes t seed nodes turns r
    → Comes u seed nodes turns (result_by (moved u.harts) r)
comes_moved move t u seed nodes turns r text said comes =
    let harts : map hart_lines t.harts ≡ map hart_lines u.harts = ap (λ (s : Said). s.harts) said in
    subst (λ (v : Template). Comes v seed nodes turns (result_by (moved u.harts) r)) (same_but t u text said) (record {
      first = comes.first;
      begun = begun_moved t u.harts (whole comes.first) harts comes.begun;
      test = comes.test;
      told = comes.told;
      searches = move (moved u.harts) (is_move u.harts) t.harts u.harts harts seed turns (shown t nodes comes.first) r comes.searches;
    })

-- ---- what is made

retold_tells : (t u : Template) (w : Whole) (c : Cert) → Tells t w c → Tells u w (with_template c u)
retold_tells t u w c tells = record {
  template = refl;
  start = tells.start;
  finals = tells.finals;
  traces = tells.traces;
  words = tells.words;
  last = tells.last;
  choices = tells.choices;
  names = tells.names;
  dropped = tells.dropped;
}

module _ (searches : SearchesHaveOneResult) (ready : TemplatesAreReady) (move : SearchesAreMoved draft_rules) (t u : Template) (seed nodes turns : ℕ) (text : t.text ≡ u.text) (said : said_by t ≡ said_by u)
    (parses : Parses u.text u) where
  one_moved : (r s : SearchResult Shown) → Comes t seed nodes turns r → Comes u seed nodes turns s → result_by (moved u.harts) r ≡ s
  one_moved r s a b = one_result searches ready u seed nodes turns parses (result_by (moved u.harts) r) s (comes_moved move t u seed nodes turns r text said a) b

  one_certificate : (c d : Cert) → IsOfTest t seed nodes turns c → IsOfTest u seed nodes turns d → with_template c u ≡ d
  one_certificate c d a b =
      let last : moved u.harts a.last ≡ b.last = one_last (moved u.harts a.last) b.last a.tally b.tally (one_moved _ _ a.comes b.comes) in
      telling_is_one u (whole a.last.now) (with_template c u) d (retold_tells t u (whole a.last.now) c a.tells) (subst (λ (s : Shown). Tells u (whole s.now) d) (sym last) b.tells)

  made_moved : (a b : Generated) → IsGenerated t seed nodes turns a → IsGenerated u seed nodes turns b → retold u a ≡ b
  made_moved (made.Done c) (made.Done d) a b = ap made.Done (one_certificate c d a b)
  made_moved (made.GaveUp n s l) (made.GaveUp m v k) a b =
      let tally : a.tally ≡ b.tally = one_tally a.tally b.tally (one_moved _ _ a.comes b.comes) in
      let none_fits : n ≡ m = a.none_fits_is ∙ ap (λ (x : Tally). x.none_fits) tally ∙ sym b.none_fits_is in
      let spent : s ≡ v = a.spent_is ∙ ap (λ (x : Tally). x.spent) tally ∙ sym b.spent_is in
      let last_line : l ≡ k = a.last_line_is ∙ ap (λ (x : Tally). x.last_line) tally ∙ sym b.last_line_is in
      λ i. made.GaveUp (none_fits i) (spent i) (last_line i)
  made_moved (made.Done c) (made.GaveUp m v k) a b = absurd (done_or_not (moved u.harts a.last) a.tally b.tally (one_moved _ _ a.comes b.comes))
  made_moved (made.GaveUp n s l) (made.Done d) a b = absurd (done_or_not b.last b.tally a.tally (sym (one_moved _ _ a.comes b.comes)))

pub texts_tell_made : SearchesHaveOneResult → TemplatesAreReady → SearchesAreMoved draft_rules → TextsTellWhatIsMade
texts_tell_made searches ready move text t u seed nodes turns a b parses parses_so one other =
    let own : Parses u.text u = subst (λ (bytes : List ℕ). Parses bytes u) (sym parses_so.text) parses_so in
    made_moved searches ready move t u seed nodes turns (parses.text ∙ sym parses_so.text) (said_same text t u parses parses_so) own a b one other
