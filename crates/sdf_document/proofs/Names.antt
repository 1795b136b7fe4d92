use Rattle.std.proofs.Common.{◌≡◌, ◌∙◌, Bool, true, false, Some, None, cond, not, ltb, length, suc, ◌+◌, ℕ, List, []}
use Rattle.std.proofs.Common.{◌∷◌, map, ap, refl, String, string_bytes, Global, Bor}
use Rattle.toml.proofs.Views.{Entry}
use Rattle.toml.specs.View.{members_view}
use Rattle.toml.specs.declared.value.Value.{Value}
use Rattle.std.specs.List.{list_any, position, position_or_len}
use Rattle.std.specs.Prelude.{◌||◌, bytes_eq, string_eq}
use Rattle.sdf_document.specs.Tables.{first_unknown, texts_of}
use Rattle.indexmap.specs.IndexSet.{insert_key}
use Rattle.sdf_document.specs.Names.{names_of, with_name}
use Rattle.std.proofs.lemmas.List.{map_push}

-- whether a text is in a list, each item seen by f
any_map : {X : Type 0} (f : X → List ℕ) (s : List ℕ) (ks : List X) →
    list_any (bytes_eq s) (map f ks) ≡ list_any (λ k. bytes_eq s (f k)) ks
any_map f s [] = refl
any_map f s (k ∷ ks) = ap (λ b. bytes_eq s (f k) || b) (any_map f s ks)

-- a text is among names exactly where it is a key's
pub list_any_names : (s : List ℕ) (ks : List (String Global)) →
    list_any (bytes_eq s) (names_of ks) ≡ list_any (λ k. bytes_eq s (string_bytes k)) ks
list_any_names s ks = any_map string_bytes s ks

-- a name that is put into a set
pub names_inserted : (ks : List (String Global)) (k : String Global) →
    names_of (insert_key string_eq ks k) ≡ with_name (names_of ks) (string_bytes k)
names_inserted ks k = go (list_any (λ x. bytes_eq (string_bytes k) (string_bytes x)) ks) refl
  where
    go : (b : Bool) → list_any (λ x. bytes_eq (string_bytes k) (string_bytes x)) ks ≡ b →
        names_of (insert_key string_eq ks k) ≡ with_name (names_of ks) (string_bytes k)
    go true h = rw (h, list_any_names (string_bytes k) ks ∙ h) refl
    go false h = rw (h, list_any_names (string_bytes k) ks ∙ h) (map_push string_bytes ks k)

pub list_any_texts : (s : List ℕ) (ts : List (Bor (List ℕ))) →
    list_any (bytes_eq s) (texts_of ts) ≡ list_any (λ t. bytes_eq s t.now) ts
list_any_texts s ts = any_map (λ t. t.now) s ts

-- a known key in front
pub stranger_known : (ts : List (Bor (List ℕ))) (s t : List Entry) (k : String Global) (v : Value) → s ≡ (k, v) ∷ t
    → list_any (λ x. bytes_eq (string_bytes k) x.now) ts ≡ true →
    first_unknown (texts_of ts) (members_view s) ≡ first_unknown (texts_of ts) (members_view t)
stranger_known ts s t k v e h =
    let found : list_any (bytes_eq (string_bytes k)) (texts_of ts) ≡ true = list_any_texts (string_bytes k) ts ∙ h in
    rw (e, found) refl

-- an unknown key in front
pub stranger_found : (ts : List (Bor (List ℕ))) (s t : List Entry) (k : String Global) (v : Value) → s ≡ (k, v) ∷ t
    → list_any (λ x. bytes_eq (string_bytes k) x.now) ts ≡ false →
    first_unknown (texts_of ts) (members_view s) ≡ Some (string_bytes k)
stranger_found ts s t k v e h =
    let found : list_any (bytes_eq (string_bytes k)) (texts_of ts) ≡ false = list_any_texts (string_bytes k) ts ∙ h in
    rw (e, found) refl

-- the place of a text in a list, each item seen by f
before_map : {X : Type 0} (f : X → List ℕ) (s : List ℕ) (ks : List X) →
    position_or_len (bytes_eq s) (map f ks) ≡ position_or_len (λ k. bytes_eq s (f k)) ks
before_map f s [] = refl
before_map f s (k ∷ ks) = ap (λ n. cond (not (bytes_eq s (f k))) (1 + n) 0) (before_map f s ks)

same_length : {X : Type 0} (f : X → List ℕ) (ks : List X) → length (map f ks) ≡ length ks
same_length f [] = refl
same_length f (k ∷ ks) = ap suc (same_length f ks)

position_map : {X : Type 0} (f : X → List ℕ) (s : List ℕ) (ks : List X) →
    position (bytes_eq s) (map f ks) ≡ position (λ k. bytes_eq s (f k)) ks
position_map f s ks =
    ap (λ n. cond (ltb n (length (map f ks))) (Some n) None) (before_map f s ks)
    ∙ ap (λ m. cond (ltb (position_or_len (λ k. bytes_eq s (f k)) ks) m)
    (Some (position_or_len (λ k. bytes_eq s (f k)) ks)) None) (same_length f ks)

-- the place of a text among names
pub position_names : (s : List ℕ) (ks : List (String Global)) →
    position (bytes_eq s) (names_of ks) ≡ position (λ k. bytes_eq s (string_bytes k)) ks
position_names s ks = position_map string_bytes s ks

pub position_texts : (s : List ℕ) (ts : List (Bor (List ℕ))) →
    position (bytes_eq s) (texts_of ts) ≡ position (λ t. bytes_eq s t.now) ts
position_texts s ts = position_map (λ t. t.now) s ts
