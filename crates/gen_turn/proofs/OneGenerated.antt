-- What is made of a template is one.
use Rattle.std.proofs.Common.{◌≡◌, ℕ, sym, ap, ◌∙◌, subst}
use Rattle.tpl_ast.specs.declared.template.Template.{Template}
use Rattle.tpl_lang.specs.Parsing.{Parses}
use Rattle.tpl_admit.specs.declared.certificate.Cert.{Cert}
use Rattle.part_state.specs.State.{Test, whole}
use Rattle.part_state.specs.Told.{Tells}
use Rattle.part_state.proofs.OneBeginning.{begun_is_one}
use Rattle.part_state.proofs.OneTelling.{telling_is_one}
use Rattle.gen_search.specs.declared.draws.Tally.{Tally}
use Rattle.gen_search.specs.Search.{Done, NoTest, SearchResult, Searches}
use Rattle.gen_turn.specs.declared.making.Generated.{Generated}
use Rattle.gen_turn.specs.declared.making.Generated.TheVariants as made
use Rattle.gen_turn.specs.Generating.{Comes, IsGenerated, IsOfTest}
use Rattle.gen_turn.specs.Laws.{GeneratedIsOne, SearchesHaveOneResult, TemplatesAreReady}
use Rattle.gen_turn.specs.Rules.{Shown, draft_rules, shown}

pub one_last : (a b : Shown) (x y : Tally) → (let r : SearchResult Shown = Done a x in r) ≡ Done b y → a ≡ b
one_last a b x y h = cc h

pub one_tally : (x y : Tally) → (let r : SearchResult Shown = NoTest x in r) ≡ NoTest y → x ≡ y
one_tally x y h = cc h

pub done_or_not : (a : Shown) (x y : Tally) → (let r : SearchResult Shown = Done a x in r) ≡ NoTest y → ⊥
done_or_not a x y h = absurd (cc h)

module _ (searches : SearchesHaveOneResult) (ready : TemplatesAreReady) (t : Template) (seed nodes turns : ℕ) (parses : Parses t.text t) where
  pub one_result : (r s : SearchResult Shown) → Comes t seed nodes turns r → Comes t seed nodes turns s → r ≡ s
  one_result r s a b =
      let first : a.first ≡ b.first = begun_is_one t a.first b.first a.begun b.begun a.test b.test a.told b.told in
      searches t.harts seed turns (shown t nodes a.first) r s (ready t nodes (whole a.first) parses a.begun a.test) a.searches
      (subst (λ (f : Test). Searches draft_rules t.harts seed turns (shown t nodes f) s) (sym first) b.searches)

  one_certificate : (c d : Cert) → IsOfTest t seed nodes turns c → IsOfTest t seed nodes turns d → c ≡ d
  one_certificate c d a b =
      let last : a.last ≡ b.last = one_last a.last b.last a.tally b.tally (one_result _ _ a.comes b.comes) in
      telling_is_one t (whole a.last.now) c d a.tells (subst (λ (s : Shown). Tells t (whole s.now) d) (sym last) b.tells)

  one_made : (a b : Generated) → IsGenerated t seed nodes turns a → IsGenerated t seed nodes turns b → a ≡ b
  one_made (made.Done c) (made.Done d) a b = ap made.Done (one_certificate c d a b)
  one_made (made.GaveUp n s l) (made.GaveUp m u k) a b =
      let tally : a.tally ≡ b.tally = one_tally a.tally b.tally (one_result _ _ a.comes b.comes) in
      let none_fits : n ≡ m = a.none_fits_is ∙ ap (λ (x : Tally). x.none_fits) tally ∙ sym b.none_fits_is in
      let spent : s ≡ u = a.spent_is ∙ ap (λ (x : Tally). x.spent) tally ∙ sym b.spent_is in
      let last_line : l ≡ k = a.last_line_is ∙ ap (λ (x : Tally). x.last_line) tally ∙ sym b.last_line_is in
      λ i. made.GaveUp (none_fits i) (spent i) (last_line i)
  one_made (made.Done c) (made.GaveUp m u k) a b = absurd (done_or_not a.last a.tally b.tally (one_result _ _ a.comes b.comes))
  one_made (made.GaveUp n s l) (made.Done d) a b = absurd (done_or_not b.last b.tally a.tally (one_result _ _ b.comes a.comes))

pub generated_is_one : SearchesHaveOneResult → TemplatesAreReady → GeneratedIsOne
generated_is_one searches ready t seed nodes turns a b parses one other = one_made searches ready t seed nodes turns parses a b one other
