-- Three coordinates turned back from their shorts. Definitions only.
use Rattle.math.specs.declared.vec3.Vec3.{Vec3}
use Rattle.quantise.specs.declared.short.Shorts.{Shorts}
use Rattle.quantise.specs.Short.{coordinate}

-- by axis, lo from bb_min and extent from bb_size
abbrev pub coordinates : Shorts → Vec3 → Vec3 → Vec3
coordinates q bb-min bb-size =
    record { x = coordinate q.x bb-min.x bb-size.x; y = coordinate q.y bb-min.y bb-size.y; z = coordinate q.z bb-min.z bb-size.z }
