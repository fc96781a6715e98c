-- What a map in insertion order finds is what the first declaration of a name is.
use Rattle.std.proofs.Common.{◌≡◌, ℕ, ◌+◌, ◌≤◌, ◌<◌, Bool, true, false, ◌||◌, cond, not, List, [], ◌∷◌, ◌++◌, length, map, slice_get, position, Option, Some, None, is_some, option_map, if◌then◌else◌, refl, sym, ap, ◌∙◌, nat_lt, arith, Vec}
use Rattle.std.specs.Global.{Global}
use Rattle.std.specs.List.{position_or_len}
use Rattle.std.specs.Map.{keys_of, lookup}
use Rattle.std.specs.Str.{bytes_eq}
use Rattle.std.proofs.lemmas.Cmp.{nat_list_eq_equiv}
use Rattle.std.proofs.lemmas.Bool.{ltb-false}
use Rattle.std.proofs.lemmas.List.Sums.{prefix_len-le-length}
use Rattle.std.proofs.lemmas.List.{length-map, map-append}
use Rattle.indexmap.specs.IndexMap.{insert_entry}
use Rattle.tpl_ast.specs.declared.template.NameDecl.{NameDecl}
use Rattle.tpl_lang.specs.Known.{index_among, name_among}
use Rattle.tpl_lang.specs.Sets.{NamedSet, find_set}
use Rattle.tpl_state.specs.declared.names.Domain.{Domain}
use Rattle.tpl_state.specs.Internal.Finding.{elements_of_set}

-- bytes are compared either way round
swapped : (xs ys : List ℕ) → bytes_eq xs ys ≡ bytes_eq ys xs
swapped xs ys = nat_list_eq_equiv.symm xs ys

abbrev pub is_name : List ℕ → Vec ℕ Global → Bool
is_name name key = bytes_eq name key.items

-- ---- sets

abbrev pub named : Vec ℕ Global × List ℕ → NamedSet
named e = (e.0.items, e.1)

pub set_found : (name : List ℕ) (es : List (Vec ℕ Global × List ℕ)) → lookup (is_name name) es ≡ elements_of_set (find_set (map named es) name)
set_found name [] = refl
set_found name (e ∷ es) = ap (λ (b : Bool). cond b (Some e.1) (lookup (is_name name) es)) (swapped name e.0.items) ∙ go (set_found name es) (bytes_eq e.0.items name)
  where
    go : lookup (is_name name) es ≡ elements_of_set (find_set (map named es) name) → (b : Bool) → cond b (Some e.1) (lookup (is_name name) es) ≡ elements_of_set (if b then Some (named e) else find_set (map named es) name)
    go rest true = refl
    go rest false = rest

lacks : (name : List ℕ) (es : List (Vec ℕ Global × List ℕ)) → find_set (map named es) name ≡ None → lookup (is_name name) es ≡ None
lacks name es h = set_found name es ∙ ap elements_of_set h

-- ---- names

abbrev pub declared : Vec ℕ Global × Domain → NameDecl
declared e = record { name = e.0.items; set = e.1.set; label = e.1.label }

pub name_found : (name : List ℕ) (es : List (Vec ℕ Global × Domain)) → is_some (lookup (is_name name) es) ≡ name_among (map declared es) name
name_found name [] = refl
name_found name (e ∷ es) = ap (λ (b : Bool). is_some (cond b (Some e.1) (lookup (is_name name) es))) (swapped name e.0.items) ∙ go (name_found name es) (bytes_eq e.0.items name)
  where
    go : is_some (lookup (is_name name) es) ≡ name_among (map declared es) name → (b : Bool) → is_some (cond b (Some e.1) (lookup (is_name name) es)) ≡ (b || name_among (map declared es) name)
    go rest true = refl
    go rest false = rest

index_is : (name : List ℕ) (es : List (Vec ℕ Global × Domain)) → position_or_len (is_name name) (keys_of es) ≡ index_among (map declared es) name
index_is name [] = refl
index_is name (e ∷ es) = ap (λ (b : Bool). cond (not b) (1 + position_or_len (is_name name) (keys_of es)) 0) (swapped name e.0.items) ∙ go (index_is name es) (bytes_eq e.0.items name)
  where
    go : position_or_len (is_name name) (keys_of es) ≡ index_among (map declared es) name → (b : Bool) → cond (not b) (1 + position_or_len (is_name name) (keys_of es)) 0 ≡ (if b then 0 else index_among (map declared es) name + 1)
    go rest true = refl
    go rest false = omega (arith, rest)

pub index_found : (name : List ℕ) (es : List (Vec ℕ Global × Domain)) (i : ℕ) → position (is_name name) (keys_of es) ≡ Some i → i ≡ index_among (map declared es) name
index_found name es i h = go (nat_lt (position_or_len (is_name name) (keys_of es)) (length (keys_of es))) h
  where
    go : (b : Bool) → cond b (Some (position_or_len (is_name name) (keys_of es))) None ≡ Some i → i ≡ index_among (map declared es) name
    go true h = let same : position_or_len (is_name name) (keys_of es) ≡ i = cc in sym same ∙ index_is name es
    go false h = absurd (cc)

pub index_lacking : (name : List ℕ) (es : List (Vec ℕ Global × Domain)) → position (is_name name) (keys_of es) ≡ None → length es ≡ index_among (map declared es) name
index_lacking name es h = go (nat_lt (position_or_len (is_name name) (keys_of es)) (length (keys_of es))) refl h
  where
    go : (b : Bool) → nat_lt (position_or_len (is_name name) (keys_of es)) (length (keys_of es)) ≡ b → cond b (Some (position_or_len (is_name name) (keys_of es))) None ≡ None → length es ≡ index_among (map declared es) name
    go true e h = absurd (cc)
    go false e h =
        let least = prefix_len-le-length (λ (k : Vec ℕ Global). not (is_name name k)) (keys_of es) in
        let most = ltb-false (position_or_len (is_name name) (keys_of es)) (length (keys_of es)) e in
        let count = length-map es (λ (e : Vec ℕ Global × Domain). e.0) in
        let place = index_is name es in
        omega (arith, least, most, count, place)

-- ---- a new name goes last

pub put : {X : Type 0} (k : Vec ℕ Global) (v : X) (es : List (Vec ℕ Global × X)) → lookup (is_name k.items) es ≡ None → insert_entry (λ a b. bytes_eq a.items b.items) es k v ≡ es ++ (k, v) ∷ []
put {X = X} k v [] none = refl
put {X = X} k v (e ∷ es) none = go (put {X = X} k v es) (bytes_eq k.items e.0.items) none
  where
    go : (lookup (is_name k.items) es ≡ None → insert_entry (λ a b. bytes_eq a.items b.items) es k v ≡ es ++ (k, v) ∷ []) → (b : Bool) → cond b (Some e.1) (lookup (is_name k.items) es) ≡ None → (if b then (e.0, v) ∷ es else e ∷ insert_entry (λ a b. bytes_eq a.items b.items) es k v) ≡ e ∷ (es ++ (k, v) ∷ [])
    go rest true h = absurd (cc)
    go rest false h = ap (λ (es : List (Vec ℕ Global × X)). e ∷ es) (rest h)

pub put_set : (k : Vec ℕ Global) (v : List ℕ) (es new : List (Vec ℕ Global × List ℕ)) → find_set (map named es) k.items ≡ None → new ≡ insert_entry (λ a b. bytes_eq a.items b.items) es k v → map named new ≡ map named es ++ (k.items, v) ∷ []
put_set k v es new none is = ap (map named) (is ∙ put k v es (lacks k.items es none)) ∙ map-append named es ((k, v) ∷ [])

pub put_name : (k : Vec ℕ Global) (v : Domain) (es new : List (Vec ℕ Global × Domain)) → name_among (map declared es) k.items ≡ false → new ≡ insert_entry (λ a b. bytes_eq a.items b.items) es k v → map declared new ≡ map declared es ++ declared (k, v) ∷ []
put_name k v es new none is = ap (map declared) (is ∙ put k v es (gone (lookup (is_name k.items) es) (name_found k.items es ∙ none))) ∙ map-append declared es ((k, v) ∷ [])
  where
    gone : (o : Option Domain) → is_some o ≡ false → o ≡ None
    gone None h = refl
    gone (Some d) h = absurd (cc)
