-- What the program's own dossier source means.
pub mod Dossiers
