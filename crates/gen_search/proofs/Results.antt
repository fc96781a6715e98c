-- What outcomes come to.
use Rattle.std.proofs.Common.{◌≡◌, ℕ, List, [], Some, refl, sym, ◌∙◌, subst}
use Rattle.std.specs.List.{slice_get}
use Rattle.tpl_ast.specs.declared.template.HartDecl.{HartDecl}
use Rattle.tpl_ast.specs.declared.template.Item.{Item}
use Rattle.gen_search.specs.declared.choice.Choice.{Choice}
use Rattle.gen_search.specs.declared.draws.Tally.{Tally}
use Rattle.gen_search.specs.Search.{Rules, Outcome, Dead, SearchResult, Walks, WalksFrom, again, all_items}
use Rattle.gen_search.specs.Places.{AreOpen, AreTried, Inside}
use Rattle.gen_search.specs.Internal.Walks.{Leads}
use Rattle.gen_search.proofs.Kept.{inside_tried}

pub same_some : (W : Type 0) (x y : W) → Some x ≡ Some y → x ≡ y
same_some W x y h = cc

module _ {W : Type 0} (rules : Rules W) (turns : ℕ) (harts : List HartDecl) (first : W) where
  -- where more outcomes are led to
  pub leads_on : (a b : Outcome W → Type 0) (r : SearchResult W) → ((o : Outcome W) → a o → b o) → Leads rules turns harts first a r → Leads rules turns harts first b r
  leads_on a b r more l = (l.0, more l.0 l.1, l.2)

  -- where all choices are tried, a dead walk begins again
  pub begins_again : (stands : W) (ws back : List W) (all none : List Choice) (start : ℕ) (t : Tally) (todo : List (ℕ × Item)) (r : SearchResult W)
      → AreOpen all → AreTried all → none ≡ [] → todo ≡ all_items 0 harts → slice_get ws start ≡ Some first → slice_get ws start ≡ Some stands
      → Leads rules turns harts first (Inside rules turns back none (Walks rules turns todo stands t)) r
      → Leads rules turns harts first (Inside rules turns ws all (λ o. o ≡ Dead t)) r
  begins_again stands ws back all none start t todo r are tried empty left is stood comes =
      let same : stands ≡ first = same_some W stands first (sym stood ∙ is) in
      let walked : Inside rules turns back none (Walks rules turns todo stands t) comes.0 ≡ WalksFrom rules turns harts first t comes.0 = λ i. Inside rules turns back (empty i) (Walks rules turns (left i) (same i) t) comes.0 in
      (Dead t, inside_tried rules turns ws all (λ o. o ≡ Dead t) t are tried refl, again (subst (λ (A : Type 0). A) walked comes.1) comes.2)

  -- a walk that was just begun
  pub begins : (ws : List W) (none : List Choice) (t u : Tally) (todo : List (ℕ × Item)) (r : SearchResult W) → none ≡ [] → todo ≡ all_items 0 harts → t ≡ u
      → Leads rules turns harts first (Inside rules turns ws none (Walks rules turns todo first t)) r → Leads rules turns harts first (WalksFrom rules turns harts first u) r
  begins ws none t u todo r empty left same comes =
      let walked : Inside rules turns ws none (Walks rules turns todo first t) comes.0 ≡ WalksFrom rules turns harts first u comes.0 = λ i. Inside rules turns ws (empty i) (Walks rules turns (left i) first (same i)) comes.0 in
      (comes.0, subst (λ (A : Type 0). A) walked comes.1, comes.2)
