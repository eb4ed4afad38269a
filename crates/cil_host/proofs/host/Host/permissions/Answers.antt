use Rattle.std.proofs.Common.{refl, sym}
use Rattle.cil_host.specs.Permissions.{IsPermissionOf}
use Rattle.cil_host.proofs.PermissionLemmas.{class_there, no_names, permission_back, permission_before, permission_only, permission_there}
use Rattle.cil_host.proofs.QueryLemmas.{fact_loaded, kept, loaded_fact, none_loaded}
use Rattle.cil_host.proofs.host.Host.permissions.Goals as goal

pub returns-in_default : goal.returns-in_default
returns-in_default g c = no_names _ _ _ refl (λ bit name. none_loaded _ _ _ _ (sym c.self.view_is) c.in_default.is (IsPermissionOf c.args.class.now bit name))

pub returns-in_default-class_named : goal.returns-in_default-class_named
returns-in_default-class_named g c = no_names _ _ _ refl (λ bit name of.
    let there = fact_loaded _ _ _ _ _ (sym c.self.view_is) c.in-Some.is (IsPermissionOf c.args.class.now bit name) of in
    let known = class_there _ _ _ bit name (kept _ _ c.in-Some.is c.self.invariant.kept).compiles there in
    c.in_default-class_named.ensures.none known.0 known.1)

pub returns : goal.returns
returns g c =
    let compiles = (kept _ _ c.in-Some.is c.self.invariant.kept).compiles in
    let is_class = c.in-Some-class_named.ensures.found in
    record {
      all = λ bit name. (
        λ of. (c.permissions_of.ensures bit name).0 (permission_back _ _ compiles _ _ bit is_class name (fact_loaded _ _ _ _ _ (sym c.self.view_is) c.in-Some.is (IsPermissionOf c.args.class.now bit name) of)),
        λ at. loaded_fact _ _ _ _ _ (sym c.self.view_is) c.in-Some.is (IsPermissionOf c.args.class.now bit name)
            (permission_there _ _ compiles _ _ bit is_class name ((c.permissions_of.ensures bit name).1 at)),
      );
      order = λ bit name at. let is = (c.permissions_of.ensures bit name).1 at in record {
        only = λ other of. permission_only _ _ compiles _ _ bit is_class name is other
            (fact_loaded _ _ _ _ _ (sym c.self.view_is) c.in-Some.is (IsPermissionOf c.args.class.now bit other) of);
        before = λ greater other less of. permission_before _ _ compiles _ _ bit is_class name is greater other less
            (fact_loaded _ _ _ _ _ (sym c.self.view_is) c.in-Some.is (IsPermissionOf c.args.class.now greater other) of);
      };
    }
