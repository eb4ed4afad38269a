-- The lines of modules, one after the other.
use Rattle.std.proofs.Common.{◌≡◌, ℕ, ◌+◌, ◌<◌, ◌≤◌, List, [], ◌∷◌, ◌++◌, length, map, take, sym, ◌∙◌, ap}
use Rattle.std.proofs.lemmas.List.{map-append, take_more, take_all}
use Rattle.sha2.specs.Sha256.{sha256}
use Rattle.cil_modset.specs.Modules.{module_of}
use Rattle.cil_host.specs.declared.listing.ListLine.{ListLine}
use Rattle.cil_host.specs.Listed.{line_of}

same_line : (digest : List ℕ) (count : ℕ) (text : List ℕ) → digest ≡ sha256 text → count ≡ length text → record { digest = digest; length = count } ≡ line_of text
same_line digest count text d l = λ i. record { digest = d i; length = l i }

pub listed_more : (modules : List (List ℕ)) (i : ℕ) (old new : List ListLine) (digest text : List ℕ) (count : ℕ) → i < length modules → old ≡ map line_of (take i modules)
    → new ≡ old ++ record { digest = digest; length = count } ∷ [] → digest ≡ sha256 (module_of modules i) → text ≡ module_of modules i → count ≡ length text
    → new ≡ map line_of (take (i + 1) modules)
listed_more modules i old new digest text count within was push is_digest is_text is_count =
    push ∙ ap (λ z. z ++ record { digest = digest; length = count } ∷ []) was
    ∙ ap (λ y. map line_of (take i modules) ++ y ∷ []) (same_line digest count (module_of modules i) is_digest (is_count ∙ ap length is_text))
    ∙ sym (ap (map line_of) (take_more modules i [] within) ∙ map-append line_of (take i modules) (module_of modules i ∷ []))

pub listed_all : (modules : List (List ℕ)) (i : ℕ) (new : List ListLine) → new ≡ map line_of (take i modules) → length modules ≤ i → new ≡ map line_of modules
listed_all modules i new is over = is ∙ ap (map line_of) (take_all i modules over)
