-- The bytes of links, and of all sections.
use Rattle.std.specs.Prelude.{OnOk, Result}
use Rattle.std.proofs.Common.{◌≡◌, ℕ, suc, ◌+◌, ◌<◌, ◌≤◌, Bool, List, [], ◌∷◌, ◌++◌, length, get_or, map, drop, refl, sym, ap, subst, ◌∙◌, append_assoc, arith}
use Rattle.std.proofs.Math.Seq.{drop-cons}
use Rattle.std.proofs.lemmas.Grind.{flat_map-append}
use Rattle.std.proofs.lemmas.List.{append-nil, drop_all, length-append, length-map}
use Rattle.cil_base.specs.declared.memory.NoMemory.{NoMemory}
use Rattle.cil_constraint_bytes.specs.constraints_crate.Constraint.{Constraint}
use Rattle.cil_rule_bytes.specs.index_crate.Sections.{RuleSections}
use Rattle.cil_tables.specs.declared.tables.Link.{Link}
use Rattle.cil_tables.specs.Holders.{link_to, links_from}
use Rattle.cil_tables.specs.Table.{Table}
use Rattle.cil_label_bytes.specs.labels.LevelTable.{LevelTable}
use Rattle.cil_label_bytes.specs.Layout.{labels}
use Rattle.cil_rule_bytes.specs.Layout.{rule_sections}
use Rattle.cil_constraint_bytes.specs.Layout.{constraints}
use Rattle.cil_table_bytes.specs.Layout.{Linked, header, names, link, links, linked, rule_limits, constraint_limits, sections, layout}
use Rattle.cil_table_bytes.specs.Told.{links_bytes, links_in, names_in}

-- the links of the holders before this one are listed, and those of the others are left
abbrev pub IsListedTo : List (List ℕ) → ℕ → List Link → Type 0
IsListedTo rows holder all = all ++ links_from holder (drop holder rows) ≡ links_from 0 rows

pub one_row : (rows : List (List ℕ)) (holder : ℕ) (row : List ℕ) (old new : List Link) → holder < length rows → row ≡ get_or rows holder [] → new ≡ old ++ map (link_to holder) row
    → IsListedTo rows holder old → IsListedTo rows (holder + 1) new
unfolding links_from
one_row rows holder row old new lt is put so_far =
    let next : holder + 1 ≡ suc holder = omega arith in
    let left : links_from holder (drop holder rows) ≡ map (link_to holder) row ++ links_from (suc holder) (drop (suc holder) rows) =
    ap (links_from holder) (drop-cons rows holder [] lt) ∙ ap (λ (w : List ℕ). map (link_to holder) w ++ links_from (suc holder) (drop (suc holder) rows)) (sym is) in
    ap (λ (k : ℕ). new ++ links_from k (drop k rows)) next
    ∙ ap (λ (w : List Link). w ++ links_from (suc holder) (drop (suc holder) rows)) put
    ∙ append_assoc old (map (link_to holder) row) (links_from (suc holder) (drop (suc holder) rows))
    ∙ ap (λ (w : List Link). old ++ w) (sym left) ∙ so_far

pub all_rows : (rows : List (List ℕ)) (holder : ℕ) (all : List Link) → length rows ≤ holder → IsListedTo rows holder all → all ≡ links_from 0 rows
unfolding links_from
all_rows rows holder all le so_far =
    sym (append-nil all) ∙ ap (λ (w : List (List ℕ)). all ++ links_from holder w) (sym (drop_all holder rows le)) ∙ so_far

-- so many links are those of the holders before this one
abbrev pub IsCountedTo : List (List ℕ) → ℕ → ℕ → Type 0
IsCountedTo rows holder count = count + length (links_from holder (drop holder rows)) ≡ length (links_from 0 rows)

pub row_counted : (rows : List (List ℕ)) (holder : ℕ) (row : List ℕ) (count more : ℕ) → holder < length rows → row ≡ get_or rows holder [] → more ≡ count + length row
    → IsCountedTo rows holder count → IsCountedTo rows (holder + 1) more
unfolding links_from
row_counted rows holder row count more lt is sum so_far =
    let next : holder + 1 ≡ suc holder = omega arith in
    let rest = links_from (suc holder) (drop (suc holder) rows) in
    let left : length (links_from holder (drop holder rows)) ≡ length row + length rest =
    ap (λ (w : List (List ℕ)). length (links_from holder w)) (drop-cons rows holder [] lt)
    ∙ ap (λ (w : List ℕ). length (map (link_to holder) w ++ rest)) (sym is) ∙ length-append (map (link_to holder) row) rest ∙ ap (λ (k : ℕ). k + length rest) (length-map row (link_to holder)) in
    let grown : more + length rest ≡ length (links_from 0 rows) = omega (arith, sum, left, so_far) in
    ap (λ (k : ℕ). more + length (links_from k (drop k rows))) next ∙ grown

pub all_counted : (rows : List (List ℕ)) (holder count : ℕ) → length rows ≤ holder → IsCountedTo rows holder count → count ≡ length (links_from 0 rows)
unfolding links_from
all_counted rows holder count le so_far =
    let none : length (links_from holder (drop holder rows)) ≡ 0 = ap (λ (w : List (List ℕ)). length (links_from holder w)) (drop_all holder rows le) in
    omega (arith, none, so_far)

-- ---- links, where bytes go

module _ {X : Type 0} (holds : X → List ℕ → Type 0) (rows : List (List ℕ)) (front : List ℕ) where
  -- the links of the holders before this one are put
  pub record ArePutTo (holder : ℕ) (out : X) : Type 0 where
    pub all : List Link
    pub listed : IsListedTo rows holder all
    pub put : holds out (front ++ links_bytes all)

  pub none_put : (out : X) → holds out front → ArePutTo 0 out
  none_put out h = record { all = []; listed = refl; put = subst (holds out) (sym (append-nil front)) h }

  pub row_put : (holder : ℕ) (row : List ℕ) (out new : X) → holder < length rows → row ≡ get_or rows holder [] → ((before : List ℕ) → holds out before → holds new (before ++ links_bytes (map (link_to holder) row)))
      → ArePutTo holder out → ArePutTo (holder + 1) new
  row_put holder row out new lt is more so_far = record {
    all = so_far.all ++ map (link_to holder) row;
    listed = one_row rows holder row so_far.all (so_far.all ++ map (link_to holder) row) lt is refl so_far.listed;
    put = subst (holds new)
        (append_assoc front (links_bytes so_far.all) (links_bytes (map (link_to holder) row))
        ∙ ap (λ (w : List ℕ). front ++ w) (sym (flat_map-append (link 0 0).spell so_far.all (map (link_to holder) row))))
        (more (front ++ links_bytes so_far.all) so_far.put);
  }

  pub rows_put : (holder : ℕ) (out : X) → length rows ≤ holder → ArePutTo holder out → holds out (front ++ links_bytes (links_from 0 rows))
  rows_put holder out le so_far = subst (λ (w : List Link). holds out (front ++ links_bytes w)) (all_rows rows holder so_far.all le so_far.listed) so_far.put

-- ---- all sections

-- how many there are of what links are between does not matter to their bytes
same_links : (u r t : ℕ) (l : Linked) → (linked 0 0 0).spell l ≡ (linked u r t).spell l
unfolding linked
same_links u r t l = refl

-- the same labels
pub same_labels : (l m : LevelTable) (u v : List (List ℕ)) → l ≡ m → u ≡ v
    → (labels l.are_on).spell (record { levels = l; users = u }) ≡ (labels m.are_on).spell (record { levels = m; users = v })
same_labels l m u v p q =
    ap (λ (k : LevelTable). (labels k.are_on).spell (record { levels = k; users = u })) p ∙ ap (λ (w : List (List ℕ)). (labels m.are_on).spell (record { levels = m; users = w })) q

-- the front, links, rules and constraints are put
pub laid_out : {X : Type 0} (holds : X → List ℕ → Type 0) (t : Table) (rules : RuleSections) (rows : List Constraint) (r : Result (Unit {0}) NoMemory) (out : X) (before front : List ℕ)
    → front ≡ header.spell t.levels.are_on ++ ((labels t.levels.are_on).spell (record { levels = t.levels; users = t.users }) ++ names.spell (names_in t)) → rules ≡ t.rules → rows ≡ t.constraints
    → OnOk r (holds out ((((before ++ front) ++ (linked 0 0 0).spell (links_in t)) ++ (rule_sections (rule_limits (names_in t))).spell rules)
    ++ (constraints (constraint_limits t.levels.are_on (length t.users) (names_in t))).spell rows))
    → OnOk r (holds out (before ++ layout t))
unfolding layout sections
laid_out holds t rules rows r out before front is_front is_rules is_rows put =
    let a = header.spell t.levels.are_on in
    let b = (labels t.levels.are_on).spell (record { levels = t.levels; users = t.users }) in
    let c = names.spell (names_in t) in
    let d = (linked 0 0 0).spell (links_in t) in
    let spell_rules = (rule_sections (rule_limits (names_in t))).spell in
    let spell_rows = (constraints (constraint_limits t.levels.are_on (length t.users) (names_in t))).spell in
    let e = spell_rules t.rules in
    let f = spell_rows t.constraints in
    let links = same_links (length t.users) (length t.roles) (length t.types) (links_in t) in
    subst (λ (w : List ℕ). OnOk r (holds out w))
    (ap (λ (w : List Constraint). (((before ++ front) ++ d) ++ spell_rules rules) ++ spell_rows w) is_rows ∙ ap (λ (w : RuleSections). (((before ++ front) ++ d) ++ spell_rules w) ++ f) is_rules
    ∙ append_assoc ((before ++ front) ++ d) e f ∙ append_assoc (before ++ front) d (e ++ f) ∙ append_assoc before front (d ++ (e ++ f))
    ∙ ap (λ (w : List ℕ). before ++ (w ++ (d ++ (e ++ f)))) is_front ∙ ap (λ (w : List ℕ). before ++ w) (append_assoc a (b ++ c) (d ++ (e ++ f)) ∙ ap (λ (w : List ℕ). a ++ w) (append_assoc b c (d ++ (e ++ f))))
    ∙ ap (λ (w : List ℕ). before ++ (a ++ (b ++ (c ++ (w ++ (e ++ f)))))) links) put

-- three sections of links are put
pub linked_put : {X : Type 0} (holds : X → List ℕ → Type 0) (l : Linked) (a b d : List Link) (r : Result (Unit {0}) NoMemory) (out : X) (before : List ℕ)
    → a ≡ l.user_roles → b ≡ l.role_types → d ≡ l.role_allows → OnOk r (holds out (((before ++ (links 0 0).spell a) ++ (links 0 0).spell b) ++ (links 0 0).spell d))
    → OnOk r (holds out (before ++ (linked 0 0 0).spell l))
unfolding linked
linked_put holds l a b d r out before ea eb ed put =
    let spell = (links 0 0).spell in
    subst (λ (w : List ℕ). OnOk r (holds out w))
    (append_assoc (before ++ spell a) (spell b) (spell d) ∙ append_assoc before (spell a) (spell b ++ spell d) ∙ ap (λ (w : List Link). before ++ (spell w ++ (spell b ++ spell d))) ea
    ∙ ap (λ (w : List Link). before ++ (spell l.user_roles ++ (spell w ++ spell d))) eb ∙ ap (λ (w : List Link). before ++ (spell l.user_roles ++ (spell l.role_types ++ spell w))) ed) put

-- the header, levels and names are put
pub front_put : (t : Table) (l m : LevelTable) (on : Bool) (u : List (List ℕ)) (o1 o2 o3 : List ℕ) → l ≡ t.levels → on ≡ l.are_on → m ≡ t.levels → u ≡ t.users
    → o1 ≡ header.spell on → o2 ≡ o1 ++ (labels m.are_on).spell (record { levels = m; users = u }) → o3 ≡ o2 ++ names.spell (names_in t)
    → o3 ≡ header.spell t.levels.are_on ++ ((labels t.levels.are_on).spell (record { levels = t.levels; users = t.users }) ++ names.spell (names_in t))
front_put t l m on u o1 o2 o3 is_l is_on is_m is_u p1 p2 p3 =
    let a = header.spell t.levels.are_on in
    let b = (labels t.levels.are_on).spell (record { levels = t.levels; users = t.users }) in
    let c = names.spell (names_in t) in
    let e1 : o1 ≡ a = p1 ∙ ap header.spell (is_on ∙ ap (λ (k : LevelTable). k.are_on) is_l) in
    let e2 : o2 ≡ a ++ b = p2 ∙ ap (λ (w : List ℕ). o1 ++ w) (same_labels m t.levels u t.users is_m is_u) ∙ ap (λ (w : List ℕ). w ++ b) e1 in
    p3 ∙ ap (λ (w : List ℕ). w ++ c) e2 ∙ append_assoc a b c
