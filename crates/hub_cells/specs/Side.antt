-- The two sides of a conversion: an object at a spoke's version, and at the hub's.

pub data Side : Type 0 where
  spoke : Side
  hub : Side

abbrev pub other : Side → Side
other spoke = hub
other hub = spoke
