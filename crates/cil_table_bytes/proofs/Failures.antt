-- Where one part of a table is refused, the whole is.
use Rattle.std.proofs.Common.{◌≡◌, ℕ, Bool, true, false, List, [], ◌∷◌, length, eqb, Ok, Err, refl}
use Rattle.cil_constraint_bytes.specs.constraints_crate.Constraint.{Constraint}
use Rattle.cil_rule_bytes.specs.index_crate.Sections.{RuleSections}
use Rattle.cil_tables.specs.Table.{Table}
use Rattle.cil_format.specs.declared.fault.TableError.{TableError}
use Rattle.cil_format.specs.declared.fault.TableError.TheVariants as errors
use Rattle.cil_format.specs.declared.fault.TableFault.TheVariants.{Trailing}
use Rattle.cil_format.specs.Takes.{Fails}
use Rattle.cil_label_bytes.specs.Layout.{LabelNames, labels}
use Rattle.cil_rule_bytes.specs.Layout.{rule_sections}
use Rattle.cil_constraint_bytes.specs.Layout.{constraints}
use Rattle.cil_table_bytes.specs.Layout.{Linked, Named, constraint_limits, header, linked, names, rule_limits, ruled, sections, table_in, table_of}

module _ (are_on : Bool) (users : ℕ) (n : Named) (bytes rest : List ℕ) (r : RuleSections) (is : (rule_sections (rule_limits n)).read bytes ≡ Ok (r, rest)) where
  -- rules were read, and constraints are refused
  pub constraints_fail : (e : TableError) → Fails e ((constraints (constraint_limits are_on users n)).read rest) → Fails e ((ruled are_on users n).read bytes)
  constraints_fail errors.NoMemory fails = tt
  constraints_fail (errors.Fault f) fails = rw (is, fails) refl

  -- both were read
  pub ruled_read : (c : List Constraint) (left : List ℕ) → (constraints (constraint_limits are_on users n)).read rest ≡ Ok (c, left) → (ruled are_on users n).read bytes ≡ Ok ((r, c), left)
  ruled_read c left there = rw (is, there) refl

module _ (are_on : Bool) (bytes behind : List ℕ) (l : LabelNames) (is : (labels are_on).read bytes ≡ Ok (l, behind)) where
  -- levels were read, and names are refused
  pub names_fail : (e : TableError) → Fails e (names.read behind) → Fails e ((sections are_on).read bytes)
  unfolding sections
  names_fail errors.NoMemory fails = tt
  names_fail (errors.Fault f) fails = rw (is, fails) refl

  module _ (next : List ℕ) (n : Named) (named : names.read behind ≡ Ok (n, next)) where
    -- and names, and links are refused
    pub links_fail : (e : TableError) → Fails e ((linked (length l.users) (length n.roles) (length n.types)).read next) → Fails e ((sections are_on).read bytes)
    unfolding sections
    links_fail errors.NoMemory fails = tt
    links_fail (errors.Fault f) fails = rw (is, named, fails) refl

    module _ (last : List ℕ) (k : Linked) (links : (linked (length l.users) (length n.roles) (length n.types)).read next ≡ Ok (k, last)) where
      -- and links, and what is behind them is refused
      pub ruled_fail : (e : TableError) → Fails e ((ruled are_on (length l.users) n).read last) → Fails e ((sections are_on).read bytes)
      unfolding sections
      ruled_fail errors.NoMemory fails = tt
      ruled_fail (errors.Fault f) fails = rw (is, named, links, fails) refl

      -- and all of it was read
      pub sections_read : (r : RuleSections) (c : List Constraint) (left : List ℕ) → (ruled are_on (length l.users) n).read last ≡ Ok ((r, c), left)
          → (sections are_on).read bytes ≡ Ok (table_of (l, (n, (k, (r, c)))), left)
      unfolding sections
      sections_read r c left there = rw (is, named, links, there) refl

module _ (are_on : Bool) (bytes behind : List ℕ) (is : header.read bytes ≡ Ok (are_on, behind)) where
  -- the sections are refused
  pub sections_fail : (e : TableError) → Fails e ((sections are_on).read behind) → Fails e (table_in bytes)
  unfolding table_in
  sections_fail errors.NoMemory fails = tt
  sections_fail (errors.Fault f) fails = rw (is, fails) refl

  -- something is left behind them
  pub trailing : (t : Table) (left : List ℕ) → (sections are_on).read behind ≡ Ok (t, left) → eqb (length left) 0 ≡ false → table_in bytes ≡ Err Trailing
  unfolding table_in
  trailing t left there more = rw (is, there, more) refl

  -- nothing is left
  pub whole : (t : Table) (left : List ℕ) → (sections are_on).read behind ≡ Ok (t, left) → eqb (length left) 0 ≡ true → table_in bytes ≡ Ok t
  unfolding table_in
  whole t left there none = rw (is, there, none) refl
