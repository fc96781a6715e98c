-- The leaves and labels of a template can be taken on the test that begins as it says.
use Rattle.std.proofs.Common.{◌≡◌, ℕ, ◌+◌, ◌<◌, ◌/◌, ◌%◌, ◌&&◌, ◌||◌, Bool, true, false, eqb, List, [], ◌∷◌, ◌++◌, length, map, leb, None, refl, sym, ap, ◌∙◌, subst, inl, inr, arith}
use Rattle.std.specs.Prelude.{Vec}
use Rattle.std.specs.Global.{Global}
use Rattle.std.specs.List.{AllByRecursion}
use Rattle.std.proofs.lemmas.Bool.{and_parts, cases_Bool, eq-eqb, eqb-true, leb-true, ltb-true}
use Rattle.std.proofs.lemmas.List.{length-replicate}
use Rattle.std.proofs.lemmas.List.Elements.{All-from_recursion}
use Rattle.tpl_ast.specs.declared.template.HartDecl.{HartDecl}
use Rattle.tpl_ast.specs.declared.template.Item.{Item}
use Rattle.tpl_ast.specs.declared.template.Item.TheFolds.{fold-roll-Item, ind-Item, map-Item}
use Rattle.tpl_ast.specs.declared.template.Item.TheOpen.{Item-F}
use Rattle.tpl_ast.specs.declared.template.Item.TheOpen as layers
use Rattle.tpl_ast.specs.declared.template.Item.TheViews.{roll-Item}
use Rattle.tpl_ast.specs.declared.template.Item.TheVariants as variants
use Rattle.tpl_ast.specs.declared.template.Template.{Template}
use Rattle.tpl_ast.specs.declared.template.Wish.{Wish}
use Rattle.tpl_ast.specs.Templates.{is_number_among, IsBody, IsFrame, KeepsLimits, are_weights, stands, stands_in}
use Rattle.rv_mem.specs.Frames.{in_frames}
use Rattle.tpl_ast.specs.Choices.{all_true, all_ways, weight_of}
use Rattle.tpl_ast.specs.Leaves.{is_leaf}
use Rattle.tpl_ast.proofs.Proved.{Proved, items_of}
use Rattle.tpl_lang.specs.Laws.{LeavesAreKnown, TemplatesKeepLimits}
use Rattle.part_machine.specs.Whole.{Whole}
use Rattle.part_state.specs.Beginning.{IsBegun}
use Rattle.part_state.specs.Meaning.{IsTest}
use Rattle.data_bytes.specs.Frames.{AreFrames}
use Rattle.gen_search.specs.Ready.{AreAllowed, AreReady, joined, joined_ways, parts_in, parts_of}
use Rattle.gen_search.specs.Search.{all_items, of_hart}
use Rattle.gen_turn.specs.Drafts.{Drafted, drafted}
use Rattle.gen_turn.specs.Grounds.{CanTake, IsGround, IsLeafOf}
use Rattle.gen_turn.specs.Laws.{TemplatesAreReady}
use Rattle.gen_turn.proofs.FirstWords.{first_words}

-- ---- one item

allowed_append : (can : ℕ → Item → Type 0) (k : ℕ) (xs ys : List Item) → AreAllowed can k xs → AreAllowed can k ys → AreAllowed can k (xs ++ ys)
allowed_append can k [] ys a b = b
allowed_append can k (x ∷ xs) ys a b = (a.0, allowed_append can k xs ys a.1 b)

module _ (can : ℕ → Item → Type 0) (k n : ℕ)
    (leaf_can : (line : ℕ) (ws : Vec Wish Global) → is_leaf n ws.items ≡ true → can k (variants.Leaf line ws))
    (fault_can : (line : ℕ) (causes : List ℕ) → can k (variants.FetchFault line causes))
    (label_can : (name : ℕ) → name < n → can k (variants.Label name)) where
  abbrev Ready : Item → Type 0
  Ready i = stands n i ≡ true → AreAllowed can k (parts_of i)

  items_ready : (es : List (Proved Ready)) → all_true (map (stands n) (items_of es)) ≡ true → AreAllowed can k (joined (map parts_of (items_of es)))
  items_ready [] h = tt
  items_ready (e ∷ es) h =
      let stand = and_parts _ _ h in
      allowed_append can k (parts_of e.0) (joined (map parts_of (items_of es))) (e.1 stand.0) (items_ready es stand.1)

  ways_ready : (f : ℕ × Vec Item Global → ℕ × Vec Bool Global) (p : ℕ × Vec Item Global → ℕ × Vec (List Item) Global) (h : ℕ × Vec (Proved Ready) Global → ℕ × Vec Item Global)
      → ((v : ℕ × Vec Item Global) → (f v).1.items ≡ map (stands n) v.1.items) → ((v : ℕ × Vec Item Global) → (p v).1.items ≡ map parts_of v.1.items)
      → ((w : ℕ × Vec (Proved Ready) Global) → (h w).1.items ≡ items_of w.1.items)
      → (ws : List (ℕ × Vec (Proved Ready) Global)) → all_ways (map f (map h ws)) ≡ true → AreAllowed can k (joined_ways (map p (map h ws)))
  ways_ready f p h fs ps hs [] stand = tt
  ways_ready f p h fs ps hs (w ∷ ws) stand =
      let a = and_parts _ _ stand in
      let own = items_ready w.1.items (sym (ap all_true (fs (h w) ∙ ap (map (stands n)) (hs w))) ∙ a.0) in
      allowed_append can k (joined (p (h w)).1.items) (joined_ways (map p (map h ws)))
      (subst (λ (xs : List (List Item)). AreAllowed can k (joined xs)) (sym (ps (h w) ∙ ap (map parts_of) (hs w))) own)
      (ways_ready f p h fs ps hs ws a.1)

  choice_ready : (f : ℕ × Vec Item Global → ℕ × Vec Bool Global) (p : ℕ × Vec Item Global → ℕ × Vec (List Item) Global) (h : ℕ × Vec (Proved Ready) Global → ℕ × Vec Item Global)
      → ((v : ℕ × Vec Item Global) → (f v).1.items ≡ map (stands n) v.1.items) → ((v : ℕ × Vec Item Global) → (p v).1.items ≡ map parts_of v.1.items)
      → ((w : ℕ × Vec (Proved Ready) Global) → (h w).1.items ≡ items_of w.1.items)
      → (ws : List (ℕ × Vec (Proved Ready) Global))
      → leb 1 (weight_of (map f (map h ws))) && (leb (length (map f (map h ws))) 64 && (are_weights (map f (map h ws)) && all_ways (map f (map h ws)))) ≡ true
      → AreAllowed can k (joined_ways (map p (map h ws)))
  choice_ready f p h fs ps hs ws stand =
      let some = and_parts (leb 1 (weight_of (map f (map h ws)))) _ stand in
      let few = and_parts (leb (length (map f (map h ws))) 64) _ some.1 in
      ways_ready f p h fs ps hs ws (and_parts (are_weights (map f (map h ws))) _ few.1).1

  ready_by : (z : Item-F Item) → (stands_in n (map-Item _ _ (stands n) z) ≡ true → AreAllowed can k (parts_in (map-Item _ _ parts_of z))) → Ready (roll-Item z)
  ready_by z same h = subst (AreAllowed can k) (sym (fold-roll-Item (List Item) parts_in z)) (same (sym (fold-roll-Item Bool (stands_in n) z) ∙ h))

  ready_step : (x : Item-F Item) (y : Item-F (Proved Ready)) → map-Item _ _ (λ e. e.0) y ≡ x → Ready (roll-Item x)
  ready_step x (layers.Leaf line wishes) is = subst (λ (z : Item-F Item). Ready (roll-Item z)) is (ready_by (layers.Leaf line wishes) (λ h. (leaf_can line wishes h, tt)))
  ready_step x (layers.FetchFault line causes) is = subst (λ (z : Item-F Item). Ready (roll-Item z)) is (ready_by (layers.FetchFault line causes) (λ h. (fault_can line causes, tt)))
  ready_step x (layers.Label name) is = subst (λ (z : Item-F Item). Ready (roll-Item z)) is (ready_by (layers.Label name) (λ h. (label_can name (ltb-true name n h), tt)))
  ready_step x (layers.Seq body) is = subst (λ (z : Item-F Item). Ready (roll-Item z)) is (ready_by _ (λ h. items_ready body.items h))
  ready_step x (layers.Repeat times body) is = subst (λ (z : Item-F Item). Ready (roll-Item z)) is (ready_by _ (λ h. items_ready body.items (and_parts (leb times 8192) _ h).1))
  ready_step x (layers.Choose line ways) is = subst (λ (z : Item-F Item). Ready (roll-Item z)) is (ready_by _ (λ h. choice_ready _ _ _ (λ v. refl) (λ v. refl) (λ w. refl) ways.items h))

  item_ready : (i : Item) → Ready i
  item_ready = ind-Item Ready ready_step

  pub body_ready : (items : List Item) → all_true (map (stands n) items) ≡ true → AreReady can (of_hart k items)
  body_ready [] h = tt
  body_ready (i ∷ items) h = let stand = and_parts _ _ h in (item_ready i stand.0, body_ready items stand.1)

-- ---- the harts of a template

ready_append : (can : ℕ → Item → Type 0) (xs ys : List (ℕ × Item)) → AreReady can xs → AreReady can ys → AreReady can (xs ++ ys)
ready_append can [] ys a b = b
ready_append can (x ∷ xs) ys a b = (a.0, ready_append can xs ys a.1 b)

-- ---- frames

-- a frame in which an address is, and one of others in which it is, are the same
number_among : (others : List ℕ) (f addr : ℕ) → AllByRecursion (λ g. g % 4096 ≡ 0) others → f % 4096 ≡ 0 → addr / 4096 ≡ f / 4096 → in_frames others addr ≡ true → is_number_among others f ≡ true
number_among [] f addr whole aligned at h = absurd (cc h)
number_among (g ∷ others) f addr whole aligned at h = elim (cases_Bool (eqb (addr / 4096) (g / 4096))) [
  | inl here ↦
      let e : addr / 4096 ≡ g / 4096 = eqb-true _ _ here in
      let own = whole.0 in
      let same : g ≡ f = omega (arith, e, at, own, aligned) in
      ap (λ (b : Bool). b || is_number_among others f) (eq-eqb g f same)
  | inr there ↦
      let later : in_frames others addr ≡ true = ap (λ (b : Bool). b || in_frames others addr) (sym there) ∙ h in
      right_true (eqb g f) (is_number_among others f) (number_among others f addr whole.1 aligned at later)
]
  where
    right_true : (a b : Bool) → b ≡ true → (a || b) ≡ true
    right_true true b k = refl
    right_true false b k = k

frames_apart : (pool tables : List ℕ) → AllByRecursion (λ f. f % 4096 ≡ 0) pool → AllByRecursion (λ g. g % 4096 ≡ 0) tables → AllByRecursion (λ f. is_number_among tables f ≡ false) pool → (addr : ℕ) → in_frames tables addr ≡ true → in_frames pool addr ≡ false
frames_apart [] tables whole others apart addr h = refl
frames_apart (f ∷ pool) tables whole others apart addr h = elim (cases_Bool (eqb (addr / 4096) (f / 4096))) [
  | inl here ↦ absurd (cc (sym (number_among tables f addr others whole.0 (eqb-true _ _ here) h) ∙ apart.0))
  | inr there ↦ ap (λ (b : Bool). b || in_frames pool addr) there ∙ frames_apart pool tables whole.1 others apart.1 addr h
]

module _ (t : Template) (nodes : ℕ) (w : Whole) (keeps : KeepsLimits t.text t) (known : LeavesAreKnown) (begun : IsBegun t w) (test : IsTest w) where
  abbrev draft : Drafted
  draft = drafted t nodes w

  many_names : length w.names ≡ length t.names
  many_names = ap length begun.names ∙ length-replicate (length t.names) None

  alignments : (fs : List ℕ) → AllByRecursion (IsFrame t.ram) fs → AllByRecursion (λ f. f % 4096 ≡ 0) fs
  alignments [] h = tt
  alignments (f ∷ fs) h = (h.0.aligned, alignments fs h.1)

  whole_frames : (fs : List ℕ) → AllByRecursion (IsFrame t.ram) fs → AreFrames fs
  whole_frames fs h = All-from_recursion (λ f. f % 4096 ≡ 0) fs (alignments fs h)

  ground : (k : ℕ) → k < length t.harts → IsGround draft k
  ground k lt = record {
    hart = subst (λ (n : ℕ). k < n) (sym begun.count) lt;
    few = let few = keeps.harts in omega (arith, lt, few);
    names = many_names;
    few_names = let few = keeps.names_count in omega (arith, few);
    frames = whole_frames t.pool keeps.pool.held;
    forms = record { tables = keeps.tables_count; pool = keeps.pool_count; flags = keeps.flags_count };
    vectors = keeps.vectors;
    apart = frames_apart t.pool t.tables (alignments t.pool keeps.pool.held) (alignments t.tables keeps.tables.held) keeps.pool.apart;
    test = test;
    words = first_words t w keeps begun test k lt;
  }

  own_leaf : (ws : List Wish) → is_leaf (length t.names) ws ≡ true → IsLeafOf t ws
  own_leaf ws leaf =
      let few = and_parts _ _ leaf in
      record {
        plain = (known (length t.names) ws leaf).plain;
        below = (and_parts _ _ (and_parts _ _ few.1).1).0;
        short = leb-true _ _ few.0;
        once = (known (length t.names) ws leaf).once;
      }

  all_ready : (k : ℕ) (hs : List HartDecl) → k + length hs ≡ length t.harts → AllByRecursion (λ (h : HartDecl). IsBody (length t.names) h.body.items) hs → AreReady (CanTake draft) (all_items k hs)
  all_ready k [] size bodies = tt
  all_ready k (h ∷ hs) size bodies =
      let g : IsGround draft k = ground k (omega (arith, size)) in
      ready_append (CanTake draft) (of_hart k h.body.items) (all_items (k + 1) hs)
      (body_ready (CanTake draft) k (length t.names) (λ line ws is. (g, own_leaf ws.items is)) (λ line causes. g) (λ name lt. (g, lt)) h.body.items bodies.0)
      (all_ready (k + 1) hs (omega (arith, size)) bodies.1)

pub templates_are_ready : TemplatesKeepLimits → LeavesAreKnown → TemplatesAreReady
templates_are_ready keep known t nodes w parses begun test = let keeps = keep t.text t parses in all_ready t nodes w keeps known begun test 0 t.harts (omega arith) keeps.bodies
