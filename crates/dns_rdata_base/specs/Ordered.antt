-- The order of two records, found by their fields.
use Rattle.std.specs.Prelude.{◌≡◌, ◌≢◌, true, Bool, Option, Some, None, List}
use Rattle.std.specs.{Ordering.on, declared.cmp.Ordering.Ordering, declared.cmp.Ordering.TheVariants.Equal}
use Rattle.dns_fields.specs.{declared.Kind.Kind, Fields.Values, Fields.all_emittable, Order.values_cmp}
use Rattle.dns_names_wire.specs.Facts.{Facts}
use Rattle.dns_canonical.specs.Fronts.{canonical_cmp}

-- Where o is Equal the two are equal; else both can be emitted, and o is the order of their canonical octets.
pub record IsOrder (s : List Kind) (a b : Values s) (same : Bool) (o : Ordering) : Type 0 where
  pub equal : o ≡ Equal → same ≡ true
  pub first : o ≢ Equal → all_emittable s a ≡ true
  pub second : o ≢ Equal → all_emittable s b ≡ true
  pub octets : o ≢ Equal → o ≡ canonical_cmp s a b

-- an order that is found is that of the two, whose equality is `same`
abbrev pub IfSomeOrder : (s : List Kind) → Values s → Values s → Bool → Option Ordering → Type 0
IfSomeOrder s a b same None = Unit {0}
IfSomeOrder s a b same (Some o) = IsOrder s a b same o

-- values ordered by what they are compared by
abbrev pub by_keys : {T : Type 0} (kinds : List Kind) → (T → Values kinds) → Facts T → Facts T
by_keys kinds keys f = record f { order = on keys (values_cmp kinds) }

-- values that hold one of another type, as that one
abbrev pub via : {T U : Type 0} → (U → T) → Facts T → Facts U
via held f = record {
  row = f.row;
  fields = λ x. f.fields (held x);
  after_read = λ n x old new. f.after_read n (held x) old new;
  order = on held f.order;
}
