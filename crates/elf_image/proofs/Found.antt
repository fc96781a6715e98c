-- What reading a whole file gives, and that it is the only thing.
use Rattle.std.proofs.Common.{◌≡◌, ℕ, ◌<◌, zero, suc, Some, None, Ok, Err, List, [], ◌∷◌, refl, sym, ap, subst, ◌∙◌, inl, inr, arith}
use Rattle.std.specs.declared.option.Option.{Option}
use Rattle.std.specs.declared.result.Result.{Result}
use Rattle.std.specs.Prelude.{IfOk, MatchResult}
use Rattle.std.specs.List.{AllByRecursion}
use Rattle.std.proofs.lemmas.Option.{same_Some, none-some}
use Rattle.tpl_ast.specs.declared.template.Region.{Region}
use Rattle.tpl_ast.specs.declared.template.Template.{Template}
use Rattle.tpl_lang.specs.Parsing.{Said, said_by}
use Rattle.tpl_lang.specs.Laws.{TemplatesKeepLimits}
use Rattle.tpl_admit.specs.declared.certificate.Cert.{Cert}
use Rattle.tpl_admit.specs.WellFormed.{IsWellFormed}
use Rattle.byte_format.specs.declared.error.PieceError.{PieceError}
use Rattle.byte_format.specs.declared.error.PieceError.TheVariants as pieces
use Rattle.byte_format.specs.Internal.Readers.{Fails}
use Rattle.byte_format.proofs.Bytes.{IsBytes}
use Rattle.elf_image.specs.declared.error.ReadError.{ReadError}
use Rattle.elf_image.specs.declared.error.ReadError.TheVariants as errors
use Rattle.elf_image.specs.File.{file_bytes}
use Rattle.elf_image.specs.Parts.{IsTemplate, UpToRecords, UpToTemplate, cert_of, HasLoads, IsFile, LacksTemplate, LacksLoads, IsFirstWrong}
use Rattle.elf_image.specs.Internal.PartReaders.{template_at, loaded_at}
use Rattle.elf_image.specs.Internal.Views.{FrontParts}
use Rattle.elf_image.specs.Internal.Whole.{GivesPart, at_part, front_at, IsRead}
use Rattle.elf_image.specs.Told.{Told, told}
use Rattle.elf_image.proofs.PartLaws.{template_takes, template_again, loads_take, loads_again}
use Rattle.elf_image.proofs.Front.{front_from, front_takes, front_again, front_wrong, notes_rest, IsLate, wrong_early}
use Rattle.elf_image.proofs.Link.{is_file, of_file}

-- ---- what each exit gives

pub early : {X : Type 0} (view : X → FrontParts) (bytes : List ℕ) (e : ReadError) → IsBytes bytes → GivesPart {X = X} {Y = FrontParts} view (Err e) (front_at bytes) → IsRead bytes (Err e)
early view bytes (errors.Malformed k) fits given = front_wrong bytes k fits given
early view bytes errors.OutOfMemory fits given = tt

pub template_wrong : (bytes : List ℕ) (p : FrontParts) (e : PieceError) (r : ReadError) → IsBytes bytes → front_at bytes ≡ Ok p
    → Fails e (template_at p.notes) → r ≡ at_part 5 e → IsRead bytes (Err r)
template_wrong bytes p pieces.Malformed r fits front failed same =
    let f = front_takes bytes p fits front in
    let none : template_at (front_from f.0).notes ≡ None = subst (λ (q : FrontParts). template_at q.notes ≡ None) f.1 failed in
    subst (λ (x : ReadError). IsRead bytes (Err x)) (sym same)
    (inr (inr (inr (inr (inl (refl, (f.0, λ t is. none-some (said_by t) (sym none ∙ template_again f.0.three.notes t is))))))))
template_wrong bytes p pieces.OutOfMemory r fits front failed same = subst (λ (x : ReadError). IsRead bytes (Err x)) (sym same) tt

-- the template that is read
pub record ReadsTemplate (p : FrontParts) (t : Template) : Type 0 where
  pub text : t.text ≡ p.notes.text
  pub says : template_at p.notes ≡ Some (said_by t)

with_template : {bytes : List ℕ} (u : UpToRecords bytes) (t : Template) → ReadsTemplate (front_from u) t → IsTemplate u.three.notes t
with_template u t read = template_takes u.three.notes t u.three.is.names read.text read.says

-- the words that stand behind the notes, as they are read
abbrev pub loads_of : FrontParts → List Region → Option (List (ℕ × ℕ))
loads_of p ram = loaded_at p.entry p.runs p.notes.start ram p.rest

pub loads_wrong : (bytes : List ℕ) (p : FrontParts) (t : Template) (e : PieceError) (r : ReadError) → IsBytes bytes → front_at bytes ≡ Ok p → ReadsTemplate p t
    → Fails e (loads_of p t.ram) → r ≡ at_part 6 e → IsRead bytes (Err r)
loads_wrong bytes p t pieces.Malformed r fits front read failed same =
    let f = front_takes bytes p fits front in
    let u = f.0 in
    let u5 : UpToTemplate bytes = record { four = u; template = t; is = with_template u t (subst (λ (q : FrontParts). ReadsTemplate q t) f.1 read) } in
    let none : loads_of (front_from u) t.ram ≡ None = subst (λ (q : FrontParts). loads_of q t.ram ≡ None) f.1 failed in
    subst (λ (x : ReadError). IsRead bytes (Err x)) (sym same)
    (inr (inr (inr (inr (inr (refl, (u5, λ words is. none-some words (sym none ∙ loads_again u.three.two.one.head.entry u.three.two.table.runs u.three.notes.start t.ram u.three.rest words is))))))))
loads_wrong bytes p t pieces.OutOfMemory r fits front read failed same = subst (λ (x : ReadError). IsRead bytes (Err x)) (sym same) tt

pub file_made : (bytes : List ℕ) (p : FrontParts) (t : Template) (words : List (ℕ × ℕ)) → IsBytes bytes → front_at bytes ≡ Ok p → ReadsTemplate p t
    → loads_of p t.ram ≡ Some words → IsFile bytes (cert_of p.notes p.traces t words)
file_made bytes p t words fits front read loads =
    let f = front_takes bytes p fits front in
    let u = f.0 in
    let u5 : UpToTemplate bytes = record { four = u; template = t; is = with_template u t (subst (λ (q : FrontParts). ReadsTemplate q t) f.1 read) } in
    let found : loads_of (front_from u) t.ram ≡ Some words = subst (λ (q : FrontParts). loads_of q t.ram ≡ Some words) f.1 loads in
    record {
      five = u5;
      words = words;
      is = loads_take u.three.two.one.head.entry u.three.two.table.runs u.three.notes.start t.ram u.three.rest words u.three.two.is.runs (notes_rest bytes u.three fits) found;
      same = ap (λ (q : FrontParts). cert_of q.notes q.traces t words) f.1;
    }

-- ---- it is the only thing

same_front : (bytes : List ℕ) (u v : UpToRecords bytes) → front_from u ≡ front_from v
same_front bytes u v = same_ok (front_from u) (front_from v) (sym (front_again bytes u) ∙ front_again bytes v)
  where
    same_ok : (x y : FrontParts) → ◌≡◌ {A = Result FrontParts ℕ} (Ok x) (Ok y) → x ≡ y
    same_ok x y e = cc

-- a text says one thing
same_said : (bytes : List ℕ) (u v : UpToTemplate bytes) → said_by u.template ≡ said_by v.template
same_said bytes u v = same_Some _ _ (sym (template_again u.four.three.notes u.template u.is) ∙ ap (λ (q : FrontParts). template_at q.notes) (same_front bytes u.four v.four) ∙ template_again v.four.three.notes v.template v.is)

same_loads : (bytes : List ℕ) (u v : UpToTemplate bytes) → loads_of (front_from u.four) u.template.ram ≡ loads_of (front_from v.four) v.template.ram
same_loads bytes u v = ap (λ (q : FrontParts). loads_of q u.template.ram) (same_front bytes u.four v.four) ∙ ap (λ (s : Said). loads_of (front_from v.four) s.ram) (same_said bytes u v)

read_again : (bytes : List ℕ) (u : UpToTemplate bytes) (words : List (ℕ × ℕ)) → HasLoads u words → loads_of (front_from u.four) u.template.ram ≡ Some words
read_again bytes u words is = loads_again u.four.three.two.one.head.entry u.four.three.two.table.runs u.four.three.notes.start u.template.ram u.four.three.rest words is

-- what is told by the first four parts, what the text says and the words
abbrev told_by : FrontParts → Said → List (ℕ × ℕ) → Told
told_by p s words = record {
  start = p.notes.start;
  words = words;
  traces = p.traces;
  finals = p.notes.finals;
  last = p.notes.last;
  text = p.notes.text;
  said = s;
  choices = p.notes.choices;
  names = p.notes.names;
  dropped = p.notes.dropped;
}

abbrev with_text : Told → List ℕ → Told
with_text t text = record t { text = text }

told_so : (bytes : List ℕ) (c : Cert) (f : IsFile bytes c) → told c ≡ told_by (front_from f.five.four) (said_by f.five.template) f.words
told_so bytes c f =
    let d : Cert = cert_of f.five.four.three.notes f.five.four.traces f.five.template f.words in
    ap told f.same ∙ ap (λ (text : List ℕ). with_text (told d) text) f.five.is.parses.text

file_unique : (bytes : List ℕ) (c d : Cert) → IsFile bytes c → IsFile bytes d → told c ≡ told d
file_unique bytes c d f g =
    let words : f.words ≡ g.words = same_Some _ _ (sym (read_again bytes f.five f.words f.is) ∙ same_loads bytes f.five g.five ∙ read_again bytes g.five g.words g.is) in
    told_so bytes c f
    ∙ ap (λ (q : FrontParts). told_by q (said_by f.five.template) f.words) (same_front bytes f.five.four g.five.four)
    ∙ ap (λ (s : Said). told_by (front_from g.five.four) s f.words) (same_said bytes f.five g.five)
    ∙ ap (λ (ws : List (ℕ × ℕ)). told_by (front_from g.five.four) (said_by g.five.template) ws) words
    ∙ sym (told_so bytes d g)

not_both : (p : FrontParts) (k : ℕ) → ◌≡◌ {A = Result FrontParts ℕ} (Ok p) (Err k) → ⊥
not_both p k e = cc

has_template : (bytes : List ℕ) (u : UpToRecords bytes) (v : UpToTemplate bytes) → LacksTemplate u → ⊥
has_template bytes u v missing = missing v.template (subst (λ (q : FrontParts). IsTemplate q.notes v.template) (same_front bytes v.four u) v.is)

has_loads : (bytes : List ℕ) (u v : UpToTemplate bytes) (words : List (ℕ × ℕ)) → IsBytes bytes → HasLoads v words → LacksLoads u → ⊥
has_loads bytes u v words fits is missing =
    let read : loads_of (front_from u.four) u.template.ram ≡ Some words = same_loads bytes u v ∙ read_again bytes v words is in
    missing words (loads_take u.four.three.two.one.head.entry u.four.three.two.table.runs u.four.three.notes.start u.template.ram u.four.three.rest words u.four.three.two.is.runs (notes_rest bytes u.four.three fits) read)

file_right : (bytes : List ℕ) (c : Cert) (k : ℕ) → IsBytes bytes → IsFile bytes c → IsFirstWrong bytes k → ⊥
file_right bytes c k fits f w =
    elim (wrong_early bytes k fits w) [
      | inl e ↦ not_both (front_from f.five.four) k (sym (front_again bytes f.five.four) ∙ e)
      | inr late ↦ elim late [
        | inl x ↦ has_template bytes x.1.0 f.five x.1.1
        | inr x ↦ has_loads bytes x.1.0 f.five f.words fits f.is x.1.1
      ]
    ]

-- ---- for what a function returned

pub is_found : (bytes : List ℕ) (r : Result Cert ReadError) → IsRead bytes r → IfOk r (λ c. IsWellFormed c × (bytes ≡ file_bytes c))
is_found bytes (Ok c) f = of_file bytes c f
is_found bytes (Err e) f = tt

pub is_only : TemplatesKeepLimits → (bytes : List ℕ) (r : Result Cert ReadError) → IsBytes bytes → IsRead bytes r → (c : Cert) → IsWellFormed c → bytes ≡ file_bytes c
    → MatchResult r (λ d. told d ≡ told c) (λ x. x ≡ errors.OutOfMemory)
is_only sound bytes r fits is c w e = on r is
  where
    f : IsFile bytes c
    f = subst (λ (b : List ℕ). IsFile b c) (sym e) (is_file sound c w)

    on : (r : Result Cert ReadError) → IsRead bytes r → MatchResult r (λ d. told d ≡ told c) (λ x. x ≡ errors.OutOfMemory)
    on (Ok d) g = file_unique bytes d c g f
    on (Err (errors.Malformed k)) g = absurd (file_right bytes c k fits f g)
    on (Err errors.OutOfMemory) g = refl

pub is_wrong : (bytes : List ℕ) (r : Result Cert ReadError) (k : ℕ) → IsRead bytes r → r ≡ Err (errors.Malformed k) → IsFirstWrong bytes k
is_wrong bytes r k is e = subst (IsRead bytes) e is

-- ---- laws

pub same_told : TemplatesKeepLimits → (a b : Cert) → IsWellFormed a → IsWellFormed b → file_bytes a ≡ file_bytes b → told a ≡ told b
same_told sound a b w v e = file_unique (file_bytes a) a b (is_file sound a w) (subst (λ (bytes : List ℕ). IsFile bytes b) (sym e) (is_file sound b v))

pub all_bytes : (bytes : List ℕ) → AllByRecursion (λ b. b < 256) bytes → IsBytes bytes
all_bytes [] fits i = omega arith
all_bytes (b ∷ bs) fits zero = fits.0
all_bytes (b ∷ bs) fits (suc i) = all_bytes bs fits.1 i

same_part : (bytes : List ℕ) (j k : ℕ) → IsBytes bytes → IsLate bytes j → IsLate bytes k → j ≡ k
same_part bytes j k fits v w =
    elim v [
      | inl x ↦ elim w [
        | inl y ↦ x.0 ∙ sym y.0
        | inr y ↦ absurd (has_template bytes x.1.0 y.1.0 x.1.1)
      ]
      | inr x ↦ elim w [
        | inl y ↦ absurd (has_template bytes y.1.0 x.1.0 y.1.1)
        | inr y ↦ x.0 ∙ sym y.0
      ]
    ]

late_front : (bytes : List ℕ) (k : ℕ) → IsLate bytes k → (p : FrontParts) × (front_at bytes ≡ Ok p)
late_front bytes k w =
    elim w [
      | inl x ↦ (front_from x.1.0, front_again bytes x.1.0)
      | inr x ↦ (front_from x.1.0.four, front_again bytes x.1.0.four)
    ]

pub one_part : (bytes : List ℕ) (j k : ℕ) → AllByRecursion (λ b. b < 256) bytes → IsFirstWrong bytes j → IsFirstWrong bytes k → j ≡ k
one_part bytes j k all v w =
    let fits = all_bytes bytes all in
    elim (wrong_early bytes j fits v) [
      | inl e ↦ elim (wrong_early bytes k fits w) [
        | inl f ↦ same_err (sym e ∙ f)
        | inr g ↦ let p = late_front bytes k g in absurd (not_both p.0 j (sym p.1 ∙ e))
      ]
      | inr h ↦ elim (wrong_early bytes k fits w) [
        | inl f ↦ let p = late_front bytes j h in absurd (not_both p.0 k (sym p.1 ∙ f))
        | inr g ↦ same_part bytes j k fits h g
      ]
    ]
  where
    same_err : ◌≡◌ {A = Result FrontParts ℕ} (Err j) (Err k) → j ≡ k
    same_err e = cc
