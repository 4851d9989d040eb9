pub mod Places
pub mod ByteLists
pub mod Accesses
pub mod Results
