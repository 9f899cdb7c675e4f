-- A refusal that is offered is the outcome of each shape, and the only one.
use Rattle.std.proofs.Common.{◌≡◌, [], refl}
use Rattle.data_core.specs.declared.fault.Fault.{Fault}
use Rattle.data_core.specs.Source as offer
use Rattle.data_core.specs.Outcome.{Outcome, given, refused}
use Rattle.data_core.specs.Reads.{IsOutcome}
use Rattle.shape.specs.declared.data.Data.{Data}
use Rattle.shape.specs.View.{data_view}
use Rattle.shape.specs.Shape.{ScalarShape, boolean, u8, u16, u32, u64, i8, i16, i32, i64, character, text, bytes, unit, unit_struct, Shape, scalar, option, seq, tuple, map, newtype, struct, enum}
use Rattle.shape_read.specs.Scalars.{scalar_of}
use Rattle.shape_read.specs.First.{visited}

scalar_refused : (a : ScalarShape) (f : Fault) → scalar_of a (offer.refused f) ≡ refused f []
scalar_refused boolean f = refl
scalar_refused u8 f = refl
scalar_refused u16 f = refl
scalar_refused u32 f = refl
scalar_refused u64 f = refl
scalar_refused i8 f = refl
scalar_refused i16 f = refl
scalar_refused i32 f = refl
scalar_refused i64 f = refl
scalar_refused character f = refl
scalar_refused text f = refl
scalar_refused bytes f = refl
scalar_refused unit f = refl
scalar_refused (unit_struct name) f = refl

pub visited_refused : (a : Shape) (f : Fault) → visited a (offer.refused f) ≡ refused f []
visited_refused (scalar a) f = scalar_refused a f
visited_refused (option a) f = refl
visited_refused (seq a) f = refl
visited_refused (tuple exactness name row) f = refl
visited_refused (map k v) f = refl
visited_refused (newtype name a) f = refl
visited_refused (struct strictness name names row) f = refl
visited_refused (enum name names held) f = refl

only_passed : {A B : Type 0} (view : B → A) (f : Fault) (o : Outcome A) (p : Outcome B) → o ≡ refused f [] → IsOutcome view o p → p ≡ refused f []
only_passed view f o (given b) e h = cc
only_passed view f o (refused g path) e h = cc

pub passes : (a : Shape) (f : Fault) → IsOutcome data_view (visited a (offer.refused f)) (refused f [])
    × ((o : Outcome Data) → IsOutcome data_view (visited a (offer.refused f)) o → o ≡ refused f [])
passes a f = (visited_refused a f, λ o h. only_passed data_view f (visited a (offer.refused f)) o (visited_refused a f) h)
