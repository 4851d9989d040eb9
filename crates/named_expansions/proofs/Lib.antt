mod NamedMacros
mod NamedTexts
