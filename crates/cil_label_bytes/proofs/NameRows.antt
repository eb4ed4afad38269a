-- Worked names and permissions, computed.
use Rattle.std.proofs.Common.{◌≡◌, [], ◌∷◌, Ok, Err, true, false, refl}
use Rattle.std.specs.Prelude.{codes}
use Rattle.cil_format.specs.declared.fault.TableFault.TheVariants.{Short, OutOfRange}
use Rattle.cil_label_bytes.specs.Names.{is_part, is_qualified, name, permission}

is_one : is_qualified (codes "c0") ≡ true
is_one = refl

is_joined : is_qualified (codes "a.b-1._c") ≡ true
is_joined = refl

no_text : is_qualified [] ≡ false
no_text = refl

dot_in_front : is_qualified (codes ".a") ≡ false
dot_in_front = refl

dot_at_the_end : is_qualified (codes "a.") ≡ false
dot_at_the_end = refl

no_part : is_qualified (codes "a..b") ≡ false
no_part = refl

digit_first : is_qualified (codes "a.0") ≡ false
digit_first = refl

reserved_whole : is_qualified (codes "self") ≡ false
reserved_whole = refl

reserved_part : is_qualified (codes "self.a") ≡ false
reserved_part = refl

reserved_last : is_qualified (codes "a.t1") ≡ false
reserved_last = refl

not_reserved : is_qualified (codes "a.t12") ≡ true
not_reserved = refl

permission_dot : is_part (codes "a.b") ≡ false
permission_dot = refl

-- a name that is none is told at its end: the end of the bytes comes before it
name_read : name.read (0 ∷ 0 ∷ 0 ∷ 3 ∷ codes "a.bc") ≡ Ok (codes "a.b", codes "c")
name_read = refl

name_wrong : name.read (0 ∷ 0 ∷ 0 ∷ 2 ∷ codes ".bc") ≡ Err OutOfRange
name_wrong = refl

name_short : name.read (0 ∷ 0 ∷ 0 ∷ 2 ∷ codes ".") ≡ Err Short
name_short = refl

permission_wrong : permission.read (0 ∷ 0 ∷ 0 ∷ 3 ∷ codes "a.b") ≡ Err OutOfRange
permission_wrong = refl
