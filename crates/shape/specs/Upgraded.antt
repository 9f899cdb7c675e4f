-- A shape in which the surplus of tuples and of structs is passed over.
use Rattle.shape.specs.Shape.{Strictness, exact, strict, loose, Shape, scalar, option, seq, tuple, prefix, map, newtype, struct, enum, Shapes, no_shapes, shape, Payloads, no_payloads, payload, PayloadShape, unit_variant, newtype_variant, tuple_variant, struct_variant}

-- a struct becomes a loose one, and a strict struct stays strict
abbrev pub loosened : Strictness → Strictness
loosened exact = loose
loosened strict = strict
loosened loose = loose

abbrev mutual
  -- every tuple is read as a prefix, and every struct as a loose one, that of a variant too, at every depth; a
  -- tuple variant keeps its size
  pub upgraded : Shape → Shape
  upgraded (scalar a) = scalar a
  upgraded (option a) = option (upgraded a)
  upgraded (seq a) = seq (upgraded a)
  upgraded (tuple exactness name row) = tuple prefix name (upgraded_all row)
  upgraded (map k v) = map (upgraded k) (upgraded v)
  upgraded (newtype name a) = newtype name (upgraded a)
  upgraded (struct strictness name names row) = struct (loosened strictness) name names (upgraded_all row)
  upgraded (enum name names held) = enum name names (upgraded_payloads held)

  pub upgraded_all : Shapes → Shapes
  upgraded_all no_shapes = no_shapes
  upgraded_all (shape a rest) = shape (upgraded a) (upgraded_all rest)

  pub upgraded_payloads : Payloads → Payloads
  upgraded_payloads no_payloads = no_payloads
  upgraded_payloads (payload p rest) = payload (upgraded_payload p) (upgraded_payloads rest)

  pub upgraded_payload : PayloadShape → PayloadShape
  upgraded_payload unit_variant = unit_variant
  upgraded_payload (newtype_variant a) = newtype_variant (upgraded a)
  upgraded_payload (tuple_variant row) = tuple_variant (upgraded_all row)
  upgraded_payload (struct_variant strictness names row) = struct_variant (loosened strictness) names (upgraded_all row)
