use Rattle.std.specs.Prelude.{◌≡◌, ◌-◌, ◌≤◌, ◌++◌, true, length, take, replicate}
use Rattle.mal_base.specs.declared.name.Name.TheInside.{Inside}
use Rattle.mal_base.specs.Names.{is_name}

-- the bytes are a name, followed by zeros up to the room's end
pub record IsPadded (n : Inside) : Type 0 where
  pub short : n.len ≤ 32
  pub named : is_name (take n.len n.bytes) ≡ true
  pub padded : n.bytes ≡ take n.len n.bytes ++ replicate (32 - n.len) 0
  pub long : length n.bytes ≡ 32
